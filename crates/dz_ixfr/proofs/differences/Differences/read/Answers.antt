use Rattle.std.proofs.Common.{◌≡◌, sym, ◌∙◌, ap, subst, refl, [], ◌∷◌, ◌++◌, append_assoc, arith, Ok, Err}
use Rattle.std.proofs.lemmas.List.{nil_from_length}
use Rattle.std.specs.Vec.Iter.{into_iter_items}
use Rattle.dz_ixfr.proofs.FedLemmas.{Reads, fails, says_stands, open_reads, none_left, reads_at, one_on}
use Rattle.dz_ixfr.proofs.differences.Differences.read.Goals as goal

pub records-init : goal.records-init
records-init c = (
  refl,
  ap (λ l. c.args.self.now.fed ++ l) c.into_iter-rest.ensures.rest,
  open_reads c.args.self.now.held c.args.self.now.fed c.requires,
)

pub returns-in-Err-clause-says : goal.returns-in-Err-clause-says
returns-in-Err-clause-says c =
    let held = c.args.self.now.held in
    let fed = c.records.self.fed in
    says_stands held (Err c.in-Err.error) _
    (fails held c.in-Err.error fed _ _ c.in-Some.found
    (reads_at c.records.self.held held (Err c.in-Err.error)
    (fed ++ c.in-Some.found ∷ []) c.records.invariant.0 c.in-Err.ensures.says)
    (one_on fed _ _ _ c.in-Some.found c.in-Some.ensures.items c.records.invariant.1))

pub records-preserved : goal.records-preserved
records-preserved c =
    let held = c.args.self.now.held in
    let fed = c.records.self.fed in
    let found = c.in-Some.found in (
      c.in-Ok.ensures.held ∙ c.records.invariant.0,
      ap (λ l. l ++ into_iter_items c.next.new.self) c.in-Ok.ensures.fed
          ∙ (append_assoc fed (found ∷ []) (into_iter_items c.next.new.self)
          ∙ one_on fed _ _ _ found c.in-Some.ensures.items c.records.invariant.1),
      subst (Reads held (Ok c.in-Ok.next)) (sym c.in-Ok.ensures.fed)
          (reads_at c.records.self.held held (Ok c.in-Ok.next)
          (fed ++ found ∷ []) c.records.invariant.0 c.in-Ok.ensures.says),
    )

pub returns-clause-says : goal.returns-clause-says
returns-clause-says c =
    let held = c.args.self.now.held in
    let none : into_iter_items c.records.rest ≡ [] = nil_from_length (into_iter_items c.records.rest)
    (let k = c.records.rest.rest.ok in let z = c.in_default.ensures.cases.0 in omega (arith, k, z)) in
    says_stands held (Ok c.records.progress) _
    (subst (Reads held (Ok c.records.progress)) (none_left c.records.self.fed
    (into_iter_items c.records.rest) _ none c.records.invariant.1) c.records.invariant.2)
