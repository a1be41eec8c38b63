use Rattle.std.proofs.Common.{◌≡◌, ◌++◌, ap, ◌∙◌, List, length}
use Rattle.std.specs.Prelude.{Result, Ok, Err, is_ok, IfOk, if◌then◌else◌}
use Rattle.dz_fleet.proofs.StayLemmas.{run_copied}
use Rattle.dz_fleet.proofs.relisted.copy_run.Goals as goal

extended : {T E X : Type 0} (r : Result T E) (now was ys zs : List X) → now ≡ (if is_ok r then was ++ ys else was)
    → ys ≡ zs → IfOk r (λ _. now ≡ was ++ zs)
extended (Ok x) now was ys zs e f = e ∙ ap (λ xs. was ++ xs) f
extended (Err x) now was ys zs e f = tt

pub returns : goal.returns
returns c =
    let i = c.relisting.inside in
    let k = ap length (rw c.fold.ensures.fold at c.catalogs-catalogs.ensures.catalogs) in
    let fits = rw (← c.relisting.view_is) at c.requires.within in
    rw (← c.relisting.view_is)
    (extended c.extend_from_slice.result _ _ _ _ c.extend_from_slice.ensures.items
    (run_copied i.before.now i.schedule.now i.after.now.members c.fold.ensures.state c.relisting.invariant _
    c.args.from c.args.upto _ k c.values.ensures c.requires.order fits))
