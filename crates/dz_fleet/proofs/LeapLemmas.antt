-- The values of the members up to a changed zone and of its own.
use Rattle.std.proofs.Common.{◌≡◌, ℕ, ◌+◌, ◌-◌, ◌<◌, ◌≤◌, Bool, true, false, List, [], ◌∷◌, ◌++◌, map, take, drop}
use Rattle.std.proofs.Common.{length, get_or, refl, sym, ◌∙◌, ap, arith, inl, inr, Some, None, append_assoc}
use Rattle.std.specs.Prelude.{Option, slice_get, position, nat_lt, IfSome, if◌then◌else◌}
use Rattle.std.proofs.lemmas.Bool.{cases_Bool}
use Rattle.std.proofs.lemmas.Bool.Decides.{nat_tests}
use Rattle.std.proofs.lemmas.List.{map-append, take-append-drop, take_rest, drop_more, drop_all, drop-map}
use Rattle.std.proofs.lemmas.Option.{slice_get_within, get_or_from_slice_get}
use Rattle.dz_name.specs.Words.{Name}
use Rattle.dz_name.specs.Name.{same_name}
use Rattle.dz_name.specs.Order.{same_decides}
use Rattle.dz_member.specs.declared.change.Change.{Change}
use Rattle.dz_member.specs.Membership.{MemberOf}
use Rattle.dz_timer.specs.Values.{ValuesOf}
use Rattle.dz_fleet.specs.inner.Relisting.{count_before, is_at, next_place, AreBehind}
use Rattle.dz_fleet.proofs.StretchLemmas.{same_rest}
use Rattle.dz_fleet.proofs.ReachLemmas.{goes_to, counts_all, place_is, drop_by}

if_some : {X : Type 0} (o : Option X) (P : X → Type 0) → ((x : X) → o ≡ Some x → P x) → IfSome o P
if_some None P h = tt
if_some (Some x) P h = h x refl

pub record Leap (ms ns : List MemberOf) (cs : List Change) (z : Name) (b a n : ℕ) : Type 0 where
  pub upward : b ≤ n
  pub within : n ≤ length ms
  pub inside : a + (n - b) ≤ length ns
  pub same : take (n - b) (drop a ns) ≡ take (n - b) (drop b ms)
  pub behind : AreBehind ms ns cs (next_place z ms n) (next_place z ns (a + (n - b)))
  pub held : (if nat_lt n (next_place z ms n) then Some n else None) ≡ position (λ m. same_name m.zone z) ms

-- a place has a next one exactly where the member there is of the zone
next_by : (n : ℕ) (t : Bool) → nat_lt n (if t then n + 1 else n) ≡ t
next_by n true = grind (arith, nat_tests)
next_by n false = grind (arith, nat_tests)

next_test : (z : Name) (ms : List MemberOf) (n : ℕ) → nat_lt n (next_place z ms n) ≡ is_at z ms n
next_test z ms n = next_by n (is_at z ms n)

pub leap_to : (ms ns : List MemberOf) (cs : List Change) (place : ℕ) (z : Name) (b a n : ℕ)
    → slice_get (map (λ (x : Change). x.zone) cs) place ≡ Some z → AreBehind ms ns (drop place cs) b a
    → n ≡ count_before z ms → Leap ms ns (drop (place + 1) cs) z b a n
leap_to ms ns cs place z b a n there h e =
    let g = goes_to ms ns cs place z b a there h in
    rw e record {
      upward = g.upward;
      within = counts_all z ms;
      inside = g.inside;
      same = g.same;
      behind = g.behind;
      held = rw (next_test z ms (count_before z ms)) (place_is z ms h.rose);
    }

module _ (ms ns : List MemberOf) (cs : List Change) (z : Name) (b a n : ℕ) (leap : Leap ms ns cs z b a n) where
  -- the place that the zone had before the listing
  held_by : (m : MemberOf) (k next : ℕ) → slice_get ns k ≡ Some m → next ≡ next_place z ns k → k < next → m.zone ≡ z
  held_by m k next there e lt =
      elim (cases_Bool (is_at z ns k)) [
        | inr no_one ↦ absurd (let same : next ≡ k = rw no_one at e in omega (arith, same, lt))
        | inl t ↦ let found : same_name m.zone z ≡ true = rw there at t in (same_decides m.zone z).0 found
      ]

  pub leap_held : (next next' : ℕ) (o : Option ℕ) → next ≡ next_place z ms n
      → next' ≡ next_place z ns (a + (n - b)) → a + (n - b) < next' → o ≡ (if nat_lt n next then Some n else None)
      → IfSome (slice_get ns (a + (n - b))) (λ m. o ≡ position (λ x. same_name x.zone m.zone) ms)
  leap_held next next' o e e' lt is = if_some (slice_get ns (a + (n - b))) _ (λ m there.
      let own : m.zone ≡ z = held_by m (a + (n - b)) next' there e' lt in
      rw own (is ∙ (rw e leap.held)))

module _ (f : MemberOf → ValuesOf) (ms ns : List MemberOf) (cs : List Change) (z : Name) (b a n : ℕ)
    (leap : Leap ms ns cs z b a n) where
  run_rest : map f (take (n - b) (drop b ms)) ++ map f (drop (a + (n - b)) ns) ≡ map f (drop a ns)
  run_rest =
      let whole : take (n - b) (drop a ns) ++ drop (n - b) (drop a ns) ≡ drop a ns =
      take-append-drop (n - b) (drop a ns) in
      ap (λ xs. map f xs ++ map f (drop (a + (n - b)) ns)) (sym leap.same)
      ∙ (ap (λ xs. map f (take (n - b) (drop a ns)) ++ map f xs) (sym (drop_by ns a (n - b)))
      ∙ (sym (map-append f (take (n - b) (drop a ns)) (drop (n - b) (drop a ns))) ∙ ap (map f) whole))

  -- no member of the zone is there after the listing
  pub leap_none : (was : List ValuesOf) (next : ℕ) → next ≡ next_place z ns (a + (n - b)) → next ≤ a + (n - b)
      → (was ++ map f (take (n - b) (drop b ms))) ++ map f (drop next ns) ≡ was ++ map f (drop a ns)
  leap_none was next e le =
      elim (cases_Bool (is_at z ns (a + (n - b)))) [
        | inl t ↦ absurd (let more : next ≡ a + (n - b) + 1 = rw t at e in omega (arith, more, le))
        | inr no_one ↦
            let same : next ≡ a + (n - b) = rw no_one at e in
            rw same (append_assoc was (map f (take (n - b) (drop b ms))) (map f (drop (a + (n - b)) ns))
            ∙ ap (λ xs. was ++ xs) run_rest)
      ]

  -- a member of the zone is there
  pub leap_one : (was : List ValuesOf) (next : ℕ) (v : ValuesOf) → next ≡ next_place z ns (a + (n - b))
      → a + (n - b) < next → slice_get (map f ns) (a + (n - b)) ≡ Some v
      → ((was ++ map f (take (n - b) (drop b ms))) ++ v ∷ []) ++ map f (drop next ns) ≡ was ++ map f (drop a ns)
  leap_one was next v e lt there =
      let k = a + (n - b) in
      elim (cases_Bool (is_at z ns k)) [
        | inr no_one ↦ absurd (let same : next ≡ k = rw no_one at e in omega (arith, same, lt))
        | inl t ↦
            let more : next ≡ k + 1 = rw t at e in
            let inside : k < length (map f ns) = slice_get_within (map f ns) k v there in
            let at : get_or (map f ns) k v ≡ v = get_or_from_slice_get (map f ns) k v v there in
            let rest : map f (drop k ns) ≡ v ∷ map f (drop (k + 1) ns) =
            sym (drop-map f k ns) ∙ (drop_more (map f ns) k v inside
            ∙ (ap (λ x. x ∷ drop (k + 1) (map f ns)) at ∙ ap (λ xs. v ∷ xs) (drop-map f (k + 1) ns))) in
            rw more
            (append_assoc (was ++ map f (take (n - b) (drop b ms))) (v ∷ []) (map f (drop (k + 1) ns))
            ∙ (ap (λ xs. (was ++ map f (take (n - b) (drop b ms))) ++ xs) (sym rest)
            ∙ (append_assoc was (map f (take (n - b) (drop b ms))) (map f (drop k ns))
            ∙ ap (λ xs. was ++ xs) run_rest)))
      ]

-- after the last change
pub last_run : (f : MemberOf → ValuesOf) (ms ns : List MemberOf) (cs : List Change) (place b a count : ℕ)
    (was done now : List ValuesOf) → AreBehind ms ns (drop place cs) b a → length cs ≤ place → count ≡ length ms
    → done ++ map f (drop a ns) ≡ was ++ map f ns → now ≡ done ++ map f (take (count - b) (drop b ms))
    → now ≡ was ++ map f ns
last_run f ms ns cs place b a count was done now h all n e is =
    let none : drop place cs ≡ [] = drop_all place cs all in
    let rest : drop a ns ≡ drop b ms = same_rest (drop b ms) (drop a ns) (rw none at h.ahead) in
    let run : take (count - b) (drop b ms) ≡ drop a ns =
    ap (λ k. take (k - b) (drop b ms)) n ∙ (take_rest ms b ∙ sym rest) in
    is ∙ (ap (λ xs. done ++ map f xs) run ∙ e)
