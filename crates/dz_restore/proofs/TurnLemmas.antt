-- Who has the turn.
use Rattle.std.proofs.Common.{◌≡◌, ℕ, zero, suc, ◌+◌, ◌-◌, ◌<◌, ◌≤◌, Bool, true, false, cond, not, List, [], ◌∷◌, ◌++◌}
use Rattle.std.proofs.Common.{length, get_or, set, take, Option, Some, None, refl, sym, ap, subst, ◌∙◌, arith}
use Rattle.std.proofs.Common.{append_assoc, length-append}
use Rattle.std.specs.Prelude.{◌&&◌, ◌||◌, ◌==◌, nat_lt, position, map}
use Rattle.std.specs.Option.{option_map}
use Rattle.dz_name.specs.Name.{same_name}
use Rattle.dz_member.specs.Membership.{MemberOf}
use Rattle.dz_history.specs.State.{State, catalog_at, member_at}
use Rattle.dz_history.specs.Places.{place_from, place_at}
use Rattle.dz_fleet.specs.Values.{value_at, value_in, kept, same_primaries, carried_from, carried, relisted_values}
use Rattle.std.specs.List.{AllByRecursion, list_any, position_or_len}
use Rattle.std.proofs.lemmas.Bool.{and_left, and_right, lt-ltb, le-ltb, or_right}
use Rattle.std.proofs.lemmas.List.{set-append_right, get_or-append_right}
use Rattle.std.proofs.lemmas.List.Folds.{list_any-append}
use Rattle.dz_timer.specs.Values.{ValuesOf, fresh, departed, failed, refused, succeeded, turned_back}
use Rattle.dz_timer.specs.Schedule.{is_first, is_earlier}
use Rattle.dz_restore.specs.Turns.{Waits, IsTurn, IsBusyTurn}

skip : (p : ValuesOf → Bool) (done : List ValuesOf) (y : ValuesOf) (rest : List ValuesOf)
    → AllByRecursion (λ v. p v ≡ false) done → p y ≡ true → position_or_len p (done ++ y ∷ rest) ≡ length done
skip p [] y rest never here = ap (λ b. cond (not b) (1 + position_or_len p rest) 0) here
skip p (v ∷ vs) y rest never here =
    let more = skip p vs y rest never.1 here in
    let first : position_or_len p ((v ∷ vs) ++ y ∷ rest) ≡ 1 + position_or_len p (vs ++ y ∷ rest) =
    ap (λ b. cond (not b) (1 + position_or_len p (vs ++ y ∷ rest)) 0) never.0 in
    omega (arith, first, more)

-- nobody is earlier than moment 0
no_earlier : (zones : List ValuesOf) → list_any (λ other. is_earlier other fresh) zones ≡ false
no_earlier [] = refl
no_earlier (v ∷ vs) = ap (λ b. b || list_any (λ other. is_earlier other fresh) vs)
    (and_right (not v.timing.busy) (nat_lt v.timing.next 0) (le-ltb v.timing.next 0 (omega arith))) ∙ no_earlier vs

-- who waits isn't first while one begins
not_first : (done rest : List ValuesOf) (v : ValuesOf) → Waits v → is_first (done ++ fresh ∷ rest) v ≡ false
not_first done rest v waits =
    and_right (not v.timing.busy) _
    (ap not (list_any-append (λ other. is_earlier other v) done (fresh ∷ rest)
    ∙ or_right (list_any (λ other. is_earlier other v) done) _
    (ap (λ b. b || list_any (λ other. is_earlier other v) rest) (lt-ltb 0 v.timing.next waits.1))))

none_first : (all done rest : List ValuesOf) (zones : List ValuesOf) → all ≡ done ++ fresh ∷ rest
    → AllByRecursion Waits zones → AllByRecursion (λ v. is_first all v ≡ false) zones
none_first all done rest [] are waits = tt
none_first all done rest (v ∷ vs) are waits =
    (ap (λ l. is_first l v) are ∙ not_first done rest v waits.0, none_first all done rest vs are waits.1)

-- it is the first
pub begins : (values done rest : List ValuesOf) (count : ℕ) → values ≡ done ++ fresh ∷ rest → length done ≡ count
    → AllByRecursion Waits done → position (is_first values) values ≡ Some count
begins values done rest count are many waits =
    let p = is_first values in
    let at : position_or_len p values ≡ count =
    ap (λ l. position_or_len p l) are
    ∙ skip p done fresh rest (none_first values done rest done are waits) (ap not (no_earlier values)) ∙ many in
    let within : count < length values = omega (arith, ap length are, many, length-append done (fresh ∷ rest)) in
    ap (λ n. cond (nat_lt n (length values)) (Some n) None)
    at ∙ ap (λ b. cond b (Some count) None) (lt-ltb count (length values) within)

pub first_in_turn : (values : List ValuesOf) (count : ℕ) → IsTurn values count → count < length values
    → position (is_first values) values ≡ Some count
first_in_turn values count turn lt = go turn.rest turn.are turn.begin
  where
    go : (rest : List ValuesOf) → values ≡ turn.done ++ rest → AllByRecursion (λ v. v ≡ fresh) rest
        → position (is_first values) values ≡ Some count
    go [] are begin = absurd (omega (arith, lt, ap length are, length-append turn.done [], turn.many))
    go (v ∷ vs) are begin =
        begins values turn.done vs count (are ∙ ap (λ x. turn.done ++ x ∷ vs) begin.0) turn.many turn.waits

waits_push : (done : List ValuesOf) (v : ValuesOf) → AllByRecursion Waits done → Waits v
    → AllByRecursion Waits (done ++ v ∷ [])
waits_push [] v waits one = (one, tt)
waits_push (x ∷ xs) v waits one = (waits.0, waits_push xs v waits.1 one)

pub next_in_turn : (values : List ValuesOf) (count : ℕ) (v : ValuesOf) → IsTurn values count → count < length values
    → Waits v → IsTurn (set values count v) (count + 1)
next_in_turn values count v turn lt waits = go turn.rest turn.are turn.begin
  where
    go : (rest : List ValuesOf) → values ≡ turn.done ++ rest → AllByRecursion (λ x. x ≡ fresh) rest
        → IsTurn (set values count v) (count + 1)
    go [] are begin = absurd (omega (arith, lt, ap length are, length-append turn.done [], turn.many))
    go (x ∷ xs) are begin = record {
      done = turn.done ++ v ∷ [];
      rest = xs;
      are = ap (λ l. set l count v) are ∙ set-append_right turn.done (x ∷ xs) count count v turn.many (omega arith)
          ∙ ap (λ n. turn.done ++ set (x ∷ xs) n v) (let none : count - count ≡ 0 = omega arith in none)
          ∙ sym (append_assoc turn.done (v ∷ []) xs);
      many = omega (arith, turn.many, length-append turn.done (v ∷ []));
      waits = waits_push turn.done v turn.waits waits;
      begin = begin.1;
    }

pub each_waits : (now refresh primaries : ℕ) (retry : Option ℕ) → Waits (failed (departed fresh) now retry primaries)
    × Waits (refused (departed fresh) now retry primaries) × Waits (succeeded (departed fresh) now refresh)
each_waits now refresh primaries None = ((refl, omega arith), (refl, omega arith), (refl, omega arith))
each_waits now refresh primaries (Some seconds) = ((refl, omega arith), (refl, omega arith), (refl, omega arith))

pub departs : (values : List ValuesOf) (count : ℕ) → IsTurn values count → count < length values
    → IsBusyTurn (set values count (departed fresh)) count
departs values count turn lt = go turn.rest turn.are turn.begin
  where
    go : (rest : List ValuesOf) → values ≡ turn.done ++ rest → AllByRecursion (λ x. x ≡ fresh) rest
        → IsBusyTurn (set values count (departed fresh)) count
    go [] are begin = absurd (omega (arith, lt, ap length are, length-append turn.done [], turn.many))
    go (x ∷ xs) are begin = record {
      done = turn.done;
      rest = xs;
      are = ap (λ l. set l count (departed fresh)) are
          ∙ set-append_right turn.done (x ∷ xs) count count (departed fresh) turn.many (omega arith)
          ∙ ap (λ n. turn.done ++ set (x ∷ xs) n (departed fresh))
          (let none : count - count ≡ 0 = omega arith in none);
      many = turn.many;
      waits = turn.waits;
      begin = begin.1;
    }

pub lands : (values : List ValuesOf) (count : ℕ) (v : ValuesOf) → IsBusyTurn values count → Waits v
    → IsTurn (set values count v) (count + 1)
lands values count v turn waits = record {
  done = turn.done ++ v ∷ [];
  rest = turn.rest;
  are = ap (λ l. set l count v) turn.are
      ∙ set-append_right turn.done (departed fresh ∷ turn.rest) count count v turn.many (omega arith)
      ∙ ap (λ n. turn.done ++ set (departed fresh ∷ turn.rest) n v)
      (let none : count - count ≡ 0 = omega arith in none)
      ∙ sym (append_assoc turn.done (v ∷ []) turn.rest);
  many = omega (arith, turn.many, length-append turn.done (v ∷ []));
  waits = waits_push turn.done v turn.waits waits;
  begin = turn.begin;
}

-- ---- a listing
all_fresh : (rest : List ValuesOf) (k : ℕ) → AllByRecursion (λ v. v ≡ fresh) rest → get_or rest k fresh ≡ fresh
all_fresh [] k begin = refl
all_fresh (v ∷ vs) zero begin = begin.0
all_fresh (v ∷ vs) (suc k) begin = all_fresh vs k begin.1

fresh_behind : (values : List ValuesOf) (count k : ℕ) → IsBusyTurn values count → count < k → value_at values k ≡ fresh
fresh_behind values count k turn lt = ap (λ l. get_or l k fresh) turn.are
    ∙ get_or-append_right turn.done (departed fresh ∷ turn.rest) count k fresh turn.many (omega arith)
    ∙ go (k - count) refl
  where
    go : (n : ℕ) → k - count ≡ n → get_or (departed fresh ∷ turn.rest) n fresh ≡ fresh
    go zero is = absurd (omega (arith, lt, is))
    go (suc n) is = all_fresh turn.rest n turn.begin

kept_fresh : (v : ValuesOf) (before m : MemberOf) → v ≡ fresh → kept v before m ≡ fresh
kept_fresh v before m is = ap (λ x. kept x before m) is ∙ both (same_primaries before m)
  where
    both : (b : Bool) → cond b fresh (turned_back fresh) ≡ fresh
    both true = refl
    both false = refl

-- a member that is no catalog begins, as it had no turn
carried_fresh : (s : State) (values : List ValuesOf) (count : ℕ) (m : MemberOf) → IsBusyTurn values count
    → count < length s.fold.config → catalog_at s m.zone ≡ None → carried s values m ≡ fresh
unfolding carried place_at
carried_fresh s values count m turn lt apart = go (member_at s m.zone)
  where
    there : (o : Option ℕ) → value_in values (option_map (λ place. length s.fold.config + place) o) ≡ fresh
    there None = refl
    there (Some place) = fresh_behind values count (length s.fold.config + place) turn (omega (arith, lt))

    before_is : value_in values (place_at s m.zone) ≡ fresh
    before_is = ap (λ o. value_in values (place_from s m.zone o)) apart
        ∙ there (position (λ x. same_name x.zone m.zone) s.fold.members)

    one : (b : Bool) (before : MemberOf) → cond b (kept (value_in values (place_at s m.zone)) before m) fresh ≡ fresh
    one true before = kept_fresh (value_in values (place_at s m.zone)) before m before_is
    one false before = refl

    go : (o : Option MemberOf) → carried_from s values m o ≡ fresh
    go None = refl
    go (Some before) = one (before.incarnation == m.incarnation) before

carried_all : (s : State) (values : List ValuesOf) (count : ℕ) (members : List MemberOf) → IsBusyTurn values count
    → count < length s.fold.config → AllByRecursion (λ m. catalog_at s m.zone ≡ None) members
    → AllByRecursion (λ v. v ≡ fresh) (map (carried s values) members)
carried_all s values count [] turn lt apart = tt
carried_all s values count (m ∷ ms) turn lt apart =
    (carried_fresh s values count m turn lt apart.0, carried_all s values count ms turn lt apart.1)

fresh_front : (rest more : List ValuesOf) (n : ℕ) → AllByRecursion (λ v. v ≡ fresh) rest
    → AllByRecursion (λ v. v ≡ fresh) more → AllByRecursion (λ v. v ≡ fresh) (take n rest ++ more)
fresh_front rest more zero begin others = others
fresh_front [] more (suc n) begin others = others
fresh_front (v ∷ vs) more (suc n) begin others = (begin.0, fresh_front vs more n begin.1 others)

take_over : (front rest : List ValuesOf) (v : ValuesOf) (n k : ℕ) → n ≡ length front + suc k
    → take n (front ++ v ∷ rest) ≡ front ++ v ∷ take k rest
take_over [] rest v zero k is = absurd (omega arith)
take_over [] rest v (suc n) k is = let same : n ≡ k = omega arith in ap (λ j. v ∷ take j rest) same
take_over (x ∷ xs) rest v zero k is = absurd (omega arith)
take_over (x ∷ xs) rest v (suc n) k is = ap (λ l. x ∷ l) (take_over xs rest v n k (omega arith))

pub listing_keeps : (s : State) (values : List ValuesOf) (members : List MemberOf) (count : ℕ)
    → IsBusyTurn values count → count < length s.fold.config → length s.fold.config ≤ length values
    → AllByRecursion (λ m. catalog_at s m.zone ≡ None) members
    → IsBusyTurn (relisted_values s values members) count
unfolding relisted_values
listing_keeps s values members count turn lt le apart =
    let n = length s.fold.config in
    let k = (n - count) - 1 in
    let sum : n ≡ length turn.done + suc k = omega (arith, turn.many, lt) in
    record {
      done = turn.done;
      rest = take k turn.rest ++ map (carried s values) members;
      are = ap (λ l. take n l ++ map (carried s values) members) turn.are
          ∙ ap (λ l. l ++ map (carried s values) members) (take_over turn.done turn.rest (departed fresh) n k sum)
          ∙ append_assoc turn.done (departed fresh ∷ take k turn.rest) (map (carried s values) members);
      many = turn.many;
      waits = turn.waits;
      begin = fresh_front turn.rest (map (carried s values) members) k turn.begin
          (carried_all s values count members turn lt apart);
    }
