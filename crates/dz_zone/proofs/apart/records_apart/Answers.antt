use Rattle.std.proofs.Common.{rules, ◌≡◌, ◌++◌, map, sym}
use Rattle.std.proofs.lemmas.List.{length-map}
use Rattle.dz_zone.specs.Apart.{missing_in}
use Rattle.dz_zone.specs.inner.Step.{step_of}
use Rattle.dz_zone.proofs.MissingLemmas.{goes, full_rises, told_on, over_from}
use Rattle.dz_zone.proofs.apart.records_apart.Goals as goal

pub records-init : goal.records-init
records-init c = record {
  before = rw c.records-olds.ensures.records
      (full_rises c.args.before.now.records c.records-olds.ensures.valid.rises);
  after = rw c.records-news.ensures.records
      (full_rises c.args.after.now.records c.records-news.ensures.valid.rises);
  gone = search rules;
  come = search rules;
  few = search rules;
}

pub returns-then-is_over-clause-apart : goal.returns-then-is_over-clause-apart
returns-then-is_over-clause-apart c =
    let inv = c.records.invariant in
    let s = step_of c.in-Some.step in
    let g = goes c.records.olds.now c.records.news.now s inv.before inv.after (sym c.in-Some.ensures) in
    let before = c.args.before.now.records in
    let after = c.args.after.now.records in
    let gone : map (λ r. r.now) c.add.new.self.gone.items ++ missing_in s.after s.before ≡ missing_in after before =
    rw c.in_ok-add.ensures.gone (told_on _ _ _ _ _ inv.gone g.gone) in
    let come : map (λ r. r.now) c.add.new.self.come.items ++ missing_in s.before s.after ≡ missing_in before after =
    rw c.in_ok-add.ensures.come (told_on _ _ _ _ _ inv.come g.come) in
    over_from 1024 (map (λ r. r.now) c.add.new.self.gone.items) (map (λ r. r.now) c.add.new.self.come.items)
    (missing_in s.after s.before) (missing_in s.before s.after) (missing_in after before) (missing_in before after)
    (rw (length-map c.add.new.self.gone.items (λ r. r.now), length-map c.add.new.self.come.items (λ r. r.now))
    c.if-is_over.ensures) gone come

pub records-preserved : goal.records-preserved
records-preserved c =
    let inv = c.records.invariant in
    let s = step_of c.in-Some.step in
    let g = goes c.records.olds.now c.records.news.now s inv.before inv.after (sym c.in-Some.ensures) in
    record {
      before = g.before_rises;
      after = g.after_rises;
      gone = rw c.in_ok-add.ensures.gone (told_on _ _ _ _ _ inv.gone g.gone);
      come = rw c.in_ok-add.ensures.come (told_on _ _ _ _ _ inv.come g.come);
      few = c.if-is_over.ensures;
    }
