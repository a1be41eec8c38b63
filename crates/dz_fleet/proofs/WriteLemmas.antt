-- The values after a listing, written at the places of the zones that it changes.
use Rattle.std.proofs.Common.{◌≡◌, ℕ, ◌+◌, ◌-◌, ◌<◌, ◌≤◌, Bool, true, false, List, [], ◌∷◌, ◌++◌, map, take, drop}
use Rattle.std.proofs.Common.{length, get_or, refl, sym, ◌∙◌, ap, subst, arith, Some, None, append_assoc}
use Rattle.std.specs.Prelude.{Option, slice_get, slice_set, position, nat_lt, IfSome}
use Rattle.std.specs.Prelude.{if◌then◌else◌}
use Rattle.std.specs.Option.{option_map, option_map_or}
use Rattle.std.proofs.Math.Seq.{take-add}
use Rattle.std.proofs.lemmas.Bool.Decides.{nat_tests}
use Rattle.std.proofs.lemmas.List.{take-append-drop, take-map, drop-map, drop_more, drop_all, drop_at, take_at, set_at}
use Rattle.std.proofs.lemmas.List.{length-map, length-take-le, take_more}
use Rattle.std.proofs.lemmas.List.Sums.{fold-append}
use Rattle.std.proofs.lemmas.Option.{slice_get_within, get_or_from_slice_get, slice_get-map}
use Rattle.dz_name.specs.Words.{Name}
use Rattle.dz_name.specs.Name.{same_name}
use Rattle.dz_member.specs.declared.change.Change.{Change}
use Rattle.dz_member.specs.Membership.{MemberOf}
use Rattle.dz_timer.specs.Values.{ValuesOf}
use Rattle.dz_history.specs.State.{State, IsState}
use Rattle.dz_history.proofs.PlaceLemmas.{seats_size}
use Rattle.dz_fleet.specs.Values.{carried, relisted_values}
use Rattle.dz_fleet.specs.Weighing.{written_at}
use Rattle.dz_fleet.specs.inner.Relisting.{count_before, is_at, next_place, half_made, IsRelisting, AreSameZones}
use Rattle.dz_fleet.specs.inner.Relisting.{AreBehind}
use Rattle.dz_fleet.proofs.StretchLemmas.{same_rest}
use Rattle.dz_fleet.proofs.ReachLemmas.{drop_by, there_rest}
use Rattle.dz_fleet.proofs.LeapLemmas.{leap_to, leap_held}
use Rattle.dz_fleet.proofs.StayLemmas.{stay_values}

-- ---- one pair more
pub written_more : (values : List ValuesOf) (pairs : List (ℕ × ValuesOf)) (place : ℕ) (v : ValuesOf)
    → written_at values (pairs ++ (place, v) ∷ []) ≡ slice_set (written_at values pairs) place v
written_more values pairs place v =
    fold-append (λ (vs : List ValuesOf) (pair : ℕ × ValuesOf). slice_set vs pair.0 pair.1) values pairs
    ((place, v) ∷ [])

-- ---- two lists that agree from one place to another
same_run : {X : Type 0} (xs ys : List X) (p k : ℕ) → take k (drop p xs) ≡ take k (drop p ys)
    → take (p + k) xs ++ drop (p + k) ys ≡ take p xs ++ drop p ys
same_run xs ys p k e =
    ap (λ zs. zs ++ drop (p + k) ys) (take-add p k xs)
    ∙ (append_assoc (take p xs) (take k (drop p xs)) (drop (p + k) ys)
    ∙ ap (λ zs. take p xs ++ zs)
    (ap (λ zs. zs ++ drop (p + k) ys) e
    ∙ (ap (λ zs. take k (drop p ys) ++ zs) (sym (drop_by ys p k)) ∙ take-append-drop k (drop p ys))))

one_set : {X : Type 0} (xs ys : List X) (p : ℕ) (x : X) → slice_get xs p ≡ Some x → p < length ys
    → slice_set (take p xs ++ drop p ys) p x ≡ take (p + 1) xs ++ drop (p + 1) ys
one_set xs ys p x there lt =
    let inside : p < length xs = slice_get_within xs p x there in
    let at : get_or xs p x ≡ x = get_or_from_slice_get xs p x x there in
    let long : length (take p xs) ≡ p = length-take-le p xs (omega arith) in
    let more : take (p + 1) xs ≡ take p xs ++ x ∷ [] = take_more xs p x inside ∙ ap (λ y. take p xs ++ y ∷ []) at in
    ap (λ zs. slice_set (take p xs ++ zs) p x) (drop_more ys p x lt)
    ∙ (set_at (take p xs) (get_or ys p x) (drop (p + 1) ys) x p long
    ∙ (sym (append_assoc (take p xs) (x ∷ []) (drop (p + 1) ys))
    ∙ ap (λ zs. zs ++ drop (p + 1) ys) (sym more)))

-- ---- the same zones
at_mapped : (z : Name) (ms : List MemberOf) (k : ℕ)
    → is_at z ms k ≡ option_map_or (λ y. same_name y z) (slice_get (map (λ (m : MemberOf). m.zone) ms) k) false
at_mapped z ms k = by_option (slice_get ms k)
    ∙ ap (λ o. option_map_or (λ (y : Name). same_name y z) o false)
    (sym (slice_get-map (λ (m : MemberOf). m.zone) ms k))
  where
    by_option : (o : Option MemberOf) → option_map_or (λ m. same_name m.zone z) o false
        ≡ option_map_or (λ y. same_name y z) (option_map (λ (m : MemberOf). m.zone) o) false
    by_option None = refl
    by_option (Some m) = refl

same_next : (z : Name) (ms ns : List MemberOf) (k : ℕ) → AreSameZones ms ns → next_place z ns k ≡ next_place z ms k
same_next z ms ns k same =
    ap (λ (t : Bool). if t then k + 1 else k)
    (at_mapped z ns k
    ∙ (ap (λ (ys : List Name). option_map_or (λ y. same_name y z) (slice_get ys k) false) same
    ∙ sym (at_mapped z ms k)))

pub same_long : (ms ns : List MemberOf) → AreSameZones ms ns → length ns ≡ length ms
same_long ms ns same =
    sym (length-map ns (λ (m : MemberOf). m.zone)) ∙ (ap length same ∙ length-map ms (λ (m : MemberOf). m.zone))

-- ---- the zone of a change
pub record Noted (ms ns : List MemberOf) (cs : List Change) (z : Name) (known n next : ℕ) : Type 0 where
  pub upward : known ≤ n
  pub same : take (n - known) (drop known ns) ≡ take (n - known) (drop known ms)
  pub behind : AreBehind ms ns cs next next
  pub inside : n < next → n < length ms
  pub one : n < next → next ≡ n + 1
  pub none : next ≤ n → next ≡ n
  pub held : n < next → IfSome (slice_get ns n) (λ m. Some n ≡ position (λ x. same_name x.zone m.zone) ms)

one_next : (n next : ℕ) (t : Bool) → next ≡ (if t then n + 1 else n) → n < next → next ≡ n + 1
one_next n next true e lt = e
one_next n next false e lt = absurd (omega (arith, e, lt))

none_next : (n next : ℕ) (t : Bool) → next ≡ (if t then n + 1 else n) → next ≤ n → next ≡ n
none_next n next true e le = absurd (omega (arith, e, le))
none_next n next false e le = e

pub noted : (ms ns : List MemberOf) (cs : List Change) (place : ℕ) (z : Name) (known n next : ℕ)
    → slice_get (map (λ (x : Change). x.zone) cs) place ≡ Some z → AreBehind ms ns (drop place cs) known known
    → AreSameZones ms ns → n ≡ count_before z ms → next ≡ next_place z ms n
    → Noted ms ns (drop (place + 1) cs) z known n next
noted ms ns cs place z known n next there h zones e f =
    let leap = leap_to ms ns cs place z known known n there h e in
    let up : known ≤ n = leap.upward in
    let whole : known + (n - known) ≡ n = omega arith in
    let next' : next_place z ns (known + (n - known)) ≡ next =
    ap (next_place z ns) whole ∙ (same_next z ms ns n zones ∙ sym f) in
    let behind : AreBehind ms ns (drop (place + 1) cs) next next = rw (next', ← f) at leap.behind in
    record {
      upward = up;
      same = leap.same;
      behind = behind;
      inside = λ lt. omega (arith, lt, behind.within);
      one = λ lt. one_next n next (is_at z ms n) f lt;
      none = λ le. none_next n next (is_at z ms n) f le;
      held = λ lt.
          let less : known + (n - known) < next = omega (arith, whole, lt) in
          let test : nat_lt n next ≡ true = grind (arith, nat_tests) in
          let o : Some n ≡ (if nat_lt n next then Some n else None) = rw test refl in
          let cs' = drop (place + 1) cs in
          let all = leap_held ms ns cs' z known known n leap next next (Some n) f (sym next') less o in
          rw whole at all;
    }

-- ---- what is written
module _ (s : State) (values : List ValuesOf) (members : List MemberOf) (ok : IsState s)
    (is : IsRelisting s values members) where
  long : length s.fold.config ≤ length values
  long = omega (arith, is.sized, seats_size s)

  made_drop : drop (length s.fold.config) (relisted_values s values members) ≡ map (carried s values) members
  unfolding relisted_values
  made_drop = drop_at (take (length s.fold.config) values) (map (carried s values) members) (length s.fold.config)
      (length-take-le (length s.fold.config) values long)

  made_from : (i : ℕ) → drop (length s.fold.config + i) (relisted_values s values members)
      ≡ map (carried s values) (drop i members)
  made_from i = sym (drop_by (relisted_values s values members) (length s.fold.config) i)
      ∙ (ap (drop i) made_drop ∙ drop-map (carried s values) i members)

  kept_from : (i : ℕ) → drop (length s.fold.config + i) values ≡ map (carried s values) (drop i s.fold.members)
  kept_from i = sym (drop_by values (length s.fold.config) i)
      ∙ (ap (drop i) (sym (stay_values s values members ok is)) ∙ drop-map (carried s values) i s.fold.members)

  -- members that stay
  pub half_on : (known n : ℕ) → known ≤ n
      → take (n - known) (drop known members) ≡ take (n - known) (drop known s.fold.members)
      → half_made (record { state = s; values = values; members = members }) n
      ≡ half_made (record { state = s; values = values; members = members }) known
  half_on known n le same =
      let k = length s.fold.config in
      let f = carried s values in
      let w = relisted_values s values members in
      let whole : k + known + (n - known) ≡ k + n = omega arith in
      let run : take (n - known) (drop (k + known) w) ≡ take (n - known) (drop (k + known) values) =
      ap (take (n - known)) (made_from known) ∙ (take-map f (n - known) (drop known members)
      ∙ (ap (map f) same ∙ (sym (take-map f (n - known) (drop known s.fold.members))
      ∙ ap (take (n - known)) (sym (kept_from known))))) in
      subst (λ p. take p w ++ drop p values ≡ take (k + known) w ++ drop (k + known) values) whole
      (same_run w values (k + known) (n - known) run)

  -- a member that is written
  pub half_one : (n : ℕ) (v : ValuesOf) → slice_get (map (carried s values) members) n ≡ Some v
      → n < length s.fold.members
      → slice_set (half_made (record { state = s; values = values; members = members }) n)
      (length s.fold.config + n) v ≡ half_made (record { state = s; values = values; members = members }) (n + 1)
  half_one n v there lt =
      let k = length s.fold.config in
      let w = relisted_values s values members in
      let at : slice_get w (k + n) ≡ Some v =
      sym (there_rest w k n) ∙ (ap (λ xs. slice_get xs n) made_drop ∙ there) in
      let inside : k + n < length values = omega (arith, lt, is.sized, seats_size s) in
      let e : k + n + 1 ≡ k + (n + 1) = omega arith in
      one_set w values (k + n) v at inside ∙ ap (λ p. take p w ++ drop p values) e

  -- before the first change
  pub half_none : values ≡ half_made (record { state = s; values = values; members = members }) 0
  unfolding relisted_values
  half_none =
      let k = length s.fold.config in
      let e : k + 0 ≡ k = omega arith in
      let front : take k (relisted_values s values members) ≡ take k values =
      take_at (take k values) (map (carried s values) members) k (length-take-le k values long) in
      rw e (sym (ap (λ xs. xs ++ drop k values) front ∙ take-append-drop k values))

  -- after the last change
  pub half_whole : (cs : List Change) (place known : ℕ) → AreBehind s.fold.members members (drop place cs) known known
      → length cs ≤ place → half_made (record { state = s; values = values; members = members }) known
      ≡ relisted_values s values members
  half_whole cs place known h all =
      let k = length s.fold.config in
      let w = relisted_values s values members in
      let none : drop place cs ≡ [] = drop_all place cs all in
      let rest : drop known members ≡ drop known s.fold.members =
      same_rest (drop known s.fold.members) (drop known members) (rw none at h.ahead) in
      let same : drop (k + known) values ≡ drop (k + known) w =
      kept_from known ∙ (ap (map (carried s values)) (sym rest) ∙ sym (made_from known)) in
      ap (λ xs. take (k + known) w ++ xs) same ∙ take-append-drop (k + known) w
