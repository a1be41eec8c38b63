-- RRsets of an authority section.
use Rattle.std.proofs.Common.{◌≡◌, ℕ, ◌+◌, ◌%◌, ◌<◌, ◌≤◌, Bool, true, false, List, [], ◌∷◌, ◌++◌, length, drop, get_or}
use Rattle.std.proofs.Common.{refl, sym, ◌∙◌, ap, arith, length-append, Some, None}
use Rattle.std.proofs.lemmas.List.{drop_more, drop_all}
use Rattle.std.specs.Prelude.{slice_get, map, ◌||◌}
use Rattle.std.specs.List.{list_any, flat_map}
use Rattle.std.specs.Borrow.{Bor}
use Rattle.dz_record.specs.Record.{Record}
use Rattle.dz_secure.specs.Secure.{signatures}
use Rattle.dz_reply.specs.Layout.{entries}
use Rattle.dz_reply.specs.Secure.{stands, gain, own_signed}
use Rattle.dz_reply.specs.inner.Signed.{own_with}
use Rattle.dz_reply.proofs.AnswerLemmas.{length-entries}

pub gain_none : (sets : List (List Record)) (rs : List Record) → None ≡ slice_get rs 0 → sets ≡ gain sets rs
unfolding gain
gain_none sets [] e = refl
gain_none sets (r ∷ rs) e = absurd (cc)

pub gain_there : (sets : List (List Record)) (rs : List Record) (r : Record) → Some r ≡ slice_get rs 0
    → stands sets r ≡ true → sets ≡ gain sets rs
unfolding gain
gain_there sets [] r e t = absurd (cc)
gain_there sets (s ∷ ss) r e t = let f : r ≡ s = cc in let g : stands sets s ≡ true = rw f at t in rw g refl

pub gain_new : (sets : List (List Record)) (rs : List Record) (r : Record) → Some r ≡ slice_get rs 0
    → stands sets r ≡ false → sets ++ rs ∷ [] ≡ gain sets rs
unfolding gain
gain_new sets [] r e t = absurd (cc)
gain_new sets (s ∷ ss) r e t = let f : r ≡ s = cc in let g : stands sets s ≡ false = rw f at t in rw g refl

pub any_shown : (p : List Record → Bool) (sets : List (Bor (List Record)))
    → list_any (λ b. p b.now) sets ≡ list_any p (map (λ b. b.now) sets)
any_shown p [] = refl
any_shown p (b ∷ bs) = ap (λ t. p b.now || t) (any_shown p bs)

pub all_shown : (f : List Record → List Record) (sets : List (Bor (List Record)))
    → flat_map (λ b. f b.now) sets ≡ flat_map f (map (λ b. b.now) sets)
all_shown f [] = refl
all_shown f (b ∷ bs) = ap (λ rs. f b.now ++ rs) (all_shown f bs)

pub shown_push : (sets : List (Bor (List Record))) (b : Bor (List Record))
    → map (λ x. x.now) (sets ++ b ∷ []) ≡ map (λ x. x.now) sets ++ b.now ∷ []
shown_push [] b = refl
shown_push (x ∷ xs) b = ap (λ rs. x.now ∷ rs) (shown_push xs b)

-- a search from the first to the last
pub any_here : {X : Type 0} (p : X → Bool) (xs : List X) (k : ℕ) (x : X) → k < length xs → x ≡ get_or xs k x
    → p x ≡ true → list_any p (drop k xs) ≡ list_any p xs → true ≡ list_any p xs
any_here p xs k x lt item is so_far =
    let e : list_any p (drop k xs) ≡ (p x || list_any p (drop (k + 1) xs)) =
    ap (list_any p) (drop_more xs k x lt ∙ ap (λ s. s ∷ drop (k + 1) xs) (sym item)) in
    sym (sym so_far ∙ (e ∙ ap (λ b. b || list_any p (drop (k + 1) xs)) is))

pub any_on : {X : Type 0} (p : X → Bool) (xs : List X) (k : ℕ) (x : X) → k < length xs → x ≡ get_or xs k x
    → p x ≡ false → list_any p (drop k xs) ≡ list_any p xs → list_any p (drop (k + 1) xs) ≡ list_any p xs
any_on p xs k x lt item is so_far =
    let e : list_any p (drop k xs) ≡ (p x || list_any p (drop (k + 1) xs)) =
    ap (list_any p) (drop_more xs k x lt ∙ ap (λ s. s ∷ drop (k + 1) xs) (sym item)) in
    sym (e ∙ ap (λ b. b || list_any p (drop (k + 1) xs)) is) ∙ so_far

pub any_end : {X : Type 0} (p : X → Bool) (xs : List X) (k : ℕ) → length xs ≤ k
    → list_any p (drop k xs) ≡ list_any p xs → false ≡ list_any p xs
any_end p xs k le so_far = sym (ap (list_any p) (drop_all k xs le)) ∙ so_far

-- an RRset and what signs it
pub set_none : (zone : List Record) (rs : List Record) → length rs < 1 → own_with [] [] ≡ own_signed zone rs
unfolding own_signed own_with
set_none zone [] few = refl
set_none zone (r ∷ rs) few = absurd (omega arith)

pub set_some : (zone : List Record) (rs sigs : List Record) (r : Record) → 1 ≤ length rs → r ≡ get_or rs 0 r
    → sigs ≡ signatures zone r.owner r.kind → own_with rs sigs ≡ own_signed zone rs
unfolding own_signed own_with
set_some zone [] sigs r some is sigs_are = absurd (omega arith)
set_some zone (s ∷ ss) sigs r some is sigs_are =
    ap (λ l. entries s.owner (s ∷ ss) ++ entries s.owner l) (sigs_are ∙ ap (λ x. signatures zone x.owner x.kind) is)

pub shown_none : (rs sigs : List Record) → length rs < 1 → own_with rs sigs ≡ []
unfolding own_with
shown_none [] sigs few = refl
shown_none (r ∷ rs) sigs few = absurd (omega arith)

pub shown_some : (rs sigs : List Record) (r : Record) → 1 ≤ length rs → r ≡ get_or rs 0 r
    → own_with rs sigs ≡ entries r.owner rs ++ entries r.owner sigs
unfolding own_with
shown_some [] sigs r some is = absurd (omega arith)
shown_some (s ∷ ss) sigs r some is = ap (λ x. entries x.owner (s ∷ ss) ++ entries x.owner sigs) (sym is)

pub shown_none_counted : (rs sigs : List Record) → length rs < 1 → 0 ≡ length (own_with rs sigs) % 65536
shown_none_counted rs sigs few = omega (arith, ap length (shown_none rs sigs few))

pub shown_counted : (rs sigs : List Record) → 1 ≤ length rs
    → (length rs % 65536 + length sigs % 65536) % 65536 ≡ length (own_with rs sigs) % 65536
shown_counted [] sigs some = absurd (omega arith)
shown_counted (r ∷ rs) sigs some =
    let e = ap length (shown_some (r ∷ rs) sigs r some refl) in
    let f = length-append (entries r.owner (r ∷ rs)) (entries r.owner sigs) in
    omega (arith, e, f, length-entries r.owner (r ∷ rs), length-entries r.owner sigs)
