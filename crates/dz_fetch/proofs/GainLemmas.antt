-- What a device tells, step by step.
use Rattle.std.proofs.Common.{List, [], ◌++◌, Option, None, Some, refl, sym, ap, ◌∙◌, append_assoc}
use Rattle.std.proofs.lemmas.List.{append-nil}
use Rattle.dz_io.specs.Device.{Gains, Tells}

pub gains_none : {A : Type 0} (held : Option (List A)) → Gains [] held held
gains_none None = refl
gains_none (Some items) = ap Some (sym (append-nil items))

pub gains_more : {A : Type 0} (xs ys : List A) (before middle after : Option (List A)) → Gains xs before middle
    → Gains ys middle after → Gains (xs ++ ys) before after
gains_more xs ys None middle after one two = cc (one, two)
gains_more xs ys (Some held) middle after one two = two ∙ (rw one (ap Some (append_assoc held xs ys)))

pub tells_gained : {A : Type 0} (xs : List A) (before after : Option (List A)) → Tells [] before
    → Gains xs before after → Tells xs after
tells_gained xs None after none gained = rw gained tt
tells_gained xs (Some held) after none gained = rw gained (ap (λ items. items ++ xs) none)
