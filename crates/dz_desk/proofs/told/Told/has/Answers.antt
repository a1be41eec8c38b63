use Rattle.std.proofs.Common.{◌≤◌, List, length, subst, ap, arith}
use Rattle.std.proofs.lemmas.Bool.Decides.{nat_tests}
use mathlib.Core.List.{IsPrefix}
use Rattle.dz_history.specs.declared.entry.Entry.{Entry}
use Rattle.dz_desk.proofs.PrefixLemmas.{prefix_shorter}
use Rattle.dz_desk.proofs.told.Told.has.Goals as goal

pub returns-then-self-other : goal.returns-then-self-other
returns-then-self-other c =
    let all = c.learn.new.self.log in
    let own : IsPrefix c.self.inside.reached.log all =
    subst (λ (log : List Entry). IsPrefix log all) (ap (λ r. r.log) c.again-both.ensures) c.learn.ensures.2 in
    let less : length c.self.inside.reached.log ≤ length c.other.inside.reached.log = grind (arith, nat_tests) in
    rw (← c.self.view_is, ← c.other.view_is)
    (prefix_shorter c.self.inside.reached.log c.other.inside.reached.log all own c.learn.ensures.3 less)

pub returns : goal.returns
returns c =
    let all = c.learn.new.self.log in
    let own : IsPrefix c.self.inside.reached.log all =
    subst (λ (log : List Entry). IsPrefix log all) (ap (λ r. r.log) c.again-both.ensures) c.learn.ensures.2 in
    let less : length c.other.inside.reached.log ≤ length c.self.inside.reached.log = grind (arith, nat_tests) in
    rw (← c.self.view_is, ← c.other.view_is)
    (prefix_shorter c.other.inside.reached.log c.self.inside.reached.log all c.learn.ensures.3 own less)
