use Rattle.std.proofs.Common.{arith, ◌≡◌, ◌-◌, ◌∙◌, ap, length, get_or, [], ◌∷◌, ◌++◌, Result, Ok, Err, sym, false}
use Rattle.std.specs.Prelude.{OnOk}
use Rattle.std.specs.Result.{is_err}
use Rattle.std.proofs.lemmas.Bool.{false≢true}
use Rattle.std.proofs.lemmas.List.{get_or_read, length_push}
use Rattle.dz_index.specs.Rows.{Rows, total}
use Rattle.dz_index.proofs.PlacesLemmas.{kept_more}
use Rattle.dz_index.proofs.index.Index.add.Goals as goal

at_ok : {T E : Type 0} (r : Result T E) (P : Type 0) → is_err r ≡ false → OnOk r P → P
at_ok (Ok x) P h p = p
at_ok (Err e) P h p = absurd (false≢true (sym h))

pub invariant_of-self-else-is_err : goal.invariant_of-self-else-is_err
invariant_of-self-else-is_err c =
    let r : Rows = record { keys = c.self.inside.keys; firsts = c.self.inside.firsts.items } in
    let keys = at_ok c.push-2.result (c.push-2.new.self ≡ r.keys ++ c.args.key.now ∷ [])
    (sym c.is_err.ensures.value ∙ c.if-is_err.false) c.push-2.ensures.value in
    let at : c.len.result - 1 ≡ length r.keys =
    omega (arith, c.len.ensures, c.self.inside.firsts.ok.0, c.self.invariant.long) in
    let last : c.index-total.result.now ≡ total r =
    get_or_read r.firsts (c.len.result - 1) c.index-total.result.now
    (omega (arith, at, c.self.invariant.long)) c.index-total.ensures 0 ∙ ap (λ i. get_or r.firsts i 0) at in
    kept_more r c.push-2.new.self c.push.new.self.items c.self.invariant
    (ap length keys ∙ length_push r.keys c.args.key.now) (rw last at c.in_ok-push.ensures.items)
