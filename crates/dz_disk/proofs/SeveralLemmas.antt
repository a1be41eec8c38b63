-- Records that join one after another.
use Rattle.std.proofs.Common.{◌≡◌, ◌<◌, ◌≤◌, ◌+◌, ℕ, zero, suc, Bool, List, [], ◌∷◌, ◌++◌, length, take, drop, get_or}
use Rattle.std.proofs.Common.{refl, sym, ap, subst, ◌∙◌, arith, inl, inr, ⊎_elim}
use Rattle.std.specs.Prelude.{map}
use Rattle.std.specs.List.{AllByRecursion}
use Rattle.std.proofs.lemmas.List.{append-nil}
use Rattle.dz_disk.specs.Disk.{IsSure, Leaves}
use Rattle.dz_disk.specs.RecordLog.{records, IsPayload, ArePayloads, IsLeft}
use Rattle.dz_disk.specs.Several.{IsLeftAmong}
use Rattle.dz_disk.proofs.CrashLemmas.{recovers}
use Rattle.dz_disk.proofs.MomentLemmas.{no_call, both_calls, wider}

pub all_at : {A : Type 0} (P : A → Type 0) (l : List A) (i : ℕ) (d : A) → AllByRecursion P l → i < length l
    → P (get_or l i d)
all_at P [] i d all lt = absurd (omega (arith, lt))
all_at P (x ∷ xs) zero d all lt = all.0
all_at P (x ∷ xs) (suc i) d all lt = all_at P xs i d all.1 (omega (arith, lt))

-- an element, what is before it and what is after it
pub parted : {A : Type 0} (f : A → List ℕ) (l : List A) (i : ℕ) (d : A) → i < length l
    → map f l ≡ take i (map f l) ++ f (get_or l i d) ∷ drop (suc i) (map f l)
parted f [] i d lt = absurd (omega (arith, lt))
parted f (x ∷ xs) zero d lt = refl
parted f (x ∷ xs) (suc i) d lt = ap (λ l. f x ∷ l) (parted f xs i d (omega (arith, lt)))

pub one_more : {A : Type 0} (f : A → List ℕ) (l : List A) (i : ℕ) (d : A) → i < length l
    → take (suc i) (map f l) ≡ take i (map f l) ++ f (get_or l i d) ∷ []
one_more f [] i d lt = absurd (omega (arith, lt))
one_more f (x ∷ xs) zero d lt = refl
one_more f (x ∷ xs) (suc i) d lt = ap (λ l. f x ∷ l) (one_more f xs i d (omega (arith, lt)))

pub all_taken : {A : Type 0} (f : A → List ℕ) (l : List A) (i : ℕ) → length l ≤ i → take i (map f l) ≡ map f l
all_taken f [] zero le = refl
all_taken f [] (suc i) le = refl
all_taken f (x ∷ xs) zero le = absurd (omega (arith, le))
all_taken f (x ∷ xs) (suc i) le = ap (λ l. f x ∷ l) (all_taken f xs i (omega (arith, le)))

append_more : (xs ys : List (List ℕ)) (z : List ℕ) → (xs ++ ys) ++ z ∷ [] ≡ xs ++ (ys ++ z ∷ [])
append_more [] ys z = refl
append_more (x ∷ xs) ys z = ap (λ l. x ∷ l) (append_more xs ys z)

pub joined_more : {A : Type 0} (f : A → List ℕ) (l : List A) (i : ℕ) (d v : A) (list now new : List (List ℕ))
    → i < length l → v ≡ get_or l i d → now ≡ list ++ take i (map f l)
    → new ≡ now ++ f v ∷ [] → new ≡ list ++ take (i + 1) (map f l)
joined_more f l i d v list now new lt is far one =
    let next : suc i ≡ i + 1 = omega arith in
    one ∙ ap (λ xs. xs ++ f v ∷ []) far ∙ append_more list (take i (map f l)) (f v) ∙ ap (λ xs. list ++ xs)
    (ap (λ w. take i (map f l) ++ f w ∷ []) is ∙ sym (one_more f l i d lt) ∙ ap (λ n. take n (map f l)) next)

-- what a crash leaves while one joins
pub left_at : {A : Type 0} (f : A → List ℕ) (l : List A) (i : ℕ) (d v : A) (list now : List (List ℕ))
    (before c : List ℕ) → i < length l → v ≡ get_or l i d → now ≡ list ++ take i (map f l)
    → IsLeft now (f v) c → IsLeftAmong list (map f l) before c
left_at f l i d v list now before c lt is far left = inr (record {
  done = take i (map f l);
  last = f v;
  rest = drop (suc i) (map f l);
  are = parted f l i d lt ∙ ap (λ w. take i (map f l) ++ f w ∷ drop (suc i) (map f l)) (sym is);
  left = subst (λ xs. IsLeft xs (f v) c) far left;
})

-- before the first
pub none_yet : {D : Type 0} (clock : D → ℕ) (left_from : D → ℕ → List ℕ → Type 0) (may_leave : D → List ℕ → Type 0)
    (disk : D) (list due : List (List ℕ)) (before : List ℕ)
    → ((c : List ℕ) → left_from disk (clock disk) c → may_leave disk c) → IsSure before (may_leave disk)
    → Leaves clock left_from disk disk (IsLeftAmong list due before)
none_yet clock left_from may_leave disk list due before now sure =
    no_call clock left_from disk (IsLeftAmong list due before) (λ c left. inl (sure c (now c left)))

pub going_on : {D : Type 0} {A : Type 0} (clock : D → ℕ) (left_from : D → ℕ → List ℕ → Type 0) (first here next : D)
    (f : A → List ℕ) (l : List A) (i : ℕ) (d v : A) (list now : List (List ℕ)) (before : List ℕ)
    → i < length l → v ≡ get_or l i d → now ≡ list ++ take i (map f l)
    → Leaves clock left_from first here (IsLeftAmong list (map f l) before)
    → Leaves clock left_from here next (IsLeft now (f v))
    → Leaves clock left_from first next (IsLeftAmong list (map f l) before)
going_on clock left_from first here next f l i d v list now before lt is far so_far one =
    both_calls clock left_from first here next (IsLeftAmong list (map f l) before) so_far
    (wider clock left_from here next (IsLeft now (f v)) (IsLeftAmong list (map f l) before)
    (λ c left. left_at f l i d v list now before c lt is far left) one)

all_of : (P : List ℕ → Type 0) (xs ys : List (List ℕ)) → AllByRecursion P (xs ++ ys)
    → AllByRecursion P xs × AllByRecursion P ys
all_of P [] ys all = (record {}, all)
all_of P (x ∷ xs) ys all = let more = all_of P xs ys all.1 in ((all.0, more.0), more.1)

all_both : (P : List ℕ → Type 0) (xs ys : List (List ℕ)) → AllByRecursion P xs → AllByRecursion P ys
    → AllByRecursion P (xs ++ ys)
all_both P [] ys one two = two
all_both P (x ∷ xs) ys one two = (one.0, all_both P xs ys one.1 two)

take_front : (xs ys : List (List ℕ)) → take (length xs) (xs ++ ys) ≡ xs
take_front [] [] = refl
take_front [] (y ∷ ys) = refl
take_front (x ∷ xs) ys = ap (λ l. x ∷ l) (take_front xs ys)

take_one_more : (xs ys : List (List ℕ)) (z : List ℕ) → take (suc (length xs)) (xs ++ z ∷ ys) ≡ xs ++ z ∷ []
take_one_more [] [] z = refl
take_one_more [] (y ∷ ys) z = refl
take_one_more (x ∷ xs) ys z = ap (λ l. x ∷ l) (take_one_more xs ys z)

take_none : (xs : List (List ℕ)) → take 0 xs ≡ []
take_none [] = refl
take_none (x ∷ xs) = refl

pub some_of_them : (reads : List ℕ → Bool) (list due : List (List ℕ)) (before file : List ℕ) → ArePayloads reads list
    → ArePayloads reads due → records reads before ≡ list
    → IsLeftAmong list due before file → (count : ℕ) × (records reads file ≡ list ++ take count due)
some_of_them reads list due before file fits are is (inl same) =
    (0, ap (records reads) same ∙ is ∙ sym (ap (λ l. list ++ l) (take_none due) ∙ append-nil list))
some_of_them reads list due before file fits are is (inr at) =
    let parts = all_of (IsPayload reads) at.done (at.last ∷ at.rest) (subst (ArePayloads reads) at.are are) in
    let begun : list ++ take (length at.done) due ≡ list ++ at.done =
    ap (λ l. list ++ l) (ap (take (length at.done)) at.are ∙ take_front at.done (at.last ∷ at.rest)) in
    let more : list ++ take (suc (length at.done)) due ≡ (list ++ at.done) ++ at.last ∷ [] =
    ap (λ l. list ++ l) (ap (take (suc (length at.done))) at.are ∙ take_one_more at.done at.rest at.last)
    ∙ sym (append_more list at.done at.last) in
    ⊎_elim (λ same. (length at.done, same ∙ sym begun)) (λ joined. (suc (length at.done), joined ∙ sym more))
    (recovers reads (list ++ at.done) at.last file
    (all_both (IsPayload reads) list at.done fits parts.0) parts.1.0 at.left)
