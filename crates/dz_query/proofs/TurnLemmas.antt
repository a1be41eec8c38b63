-- Requests one after the other, over a list that grows.
use Rattle.std.proofs.Common.{◌≡◌, ℕ, ◌+◌, ◌≤◌, Bool, true, false, ◌||◌, List, [], ◌∷◌, ◌++◌, length, take, refl, sym}
use Rattle.std.proofs.Common.{ap, ◌∙◌, arith}
use Rattle.std.specs.List.{flat_map}
use Rattle.std.proofs.Math.Seq.{take-length}
use Rattle.std.proofs.lemmas.Grind.{flat_map-append}
use Rattle.std.proofs.lemmas.List.{append-nil, take-append-le}
use mathlib.Core.List.{IsPrefix}
use Rattle.dz_io.specs.Packets.{Packet}
use Rattle.dz_history.specs.declared.entry.Entry.{Entry}
use Rattle.dz_desk.proofs.PrefixLemmas.{prefix_length}
use Rattle.dz_query.specs.Served.{Served, excused, IsExcused, AreInTurn, loss, losses}
use Rattle.dz_query.specs.inner.Replying.{has_unheard}
use Rattle.dz_query.specs.declared.fate.Fate.{Fate}
use Rattle.dz_query.specs.declared.fate.Fate.TheVariants.{Sent, Lost, Unheard}

pub take_prefix : {A : Type 0} (n : ℕ) (list later : List A) → IsPrefix list later → n ≤ length list
    → take n later ≡ take n list
take_prefix n list later p less = ap (λ xs. take n xs) (sym p.1) ∙ take-append-le n list p.0 less

module _ (may_fail : Type 0) (may_give : ℕ → Bool) (tcp : Bool) where
  pub turn_below : (from : ℕ) (list : List Entry) (served : List Served)
      → AreInTurn may_fail may_give tcp from list served → from ≤ length list
  turn_below from list [] t = t
  turn_below from list (s ∷ more) t = omega (arith, t.0, turn_below s.upto list more t.3)

  pub turn_later : (from : ℕ) (list later : List Entry) (served : List Served) → IsPrefix list later
      → AreInTurn may_fail may_give tcp from list served → AreInTurn may_fail may_give tcp from later served
  turn_later from list later [] p t = omega (arith, t, prefix_length list later p)
  turn_later from list later (s ∷ more) p t = (t.0, t.1, t.2, turn_later s.upto list later more p t.3)

  pub turn_sooner : (less from : ℕ) (list : List Entry) (served : List Served) → less ≤ from
      → AreInTurn may_fail may_give tcp from list served → AreInTurn may_fail may_give tcp less list served
  turn_sooner less from list [] sooner t = omega (arith, sooner, t)
  turn_sooner less from list (s ∷ more) sooner t = (omega (arith, sooner, t.0), t.1, t.2, t.3)

  -- those that came later join them
  pub turn_join : (from : ℕ) (list later : List Entry) (served others : List Served) → IsPrefix list later
      → AreInTurn may_fail may_give tcp from list served → AreInTurn may_fail may_give tcp (length list) later others
      → AreInTurn may_fail may_give tcp from later (served ++ others)
  turn_join from list later [] others p t u = turn_sooner from (length list) later others t u
  turn_join from list later (s ∷ more) others p t u = (t.0, t.1, t.2, turn_join s.upto list later more others p t.3 u)

  pub turn_one : (list later : List Entry) (request : Packet) (moment : ℕ) (fate : Fate) → IsPrefix list later
      → may_give moment ≡ true → IsExcused may_fail tcp fate request
      → AreInTurn may_fail may_give tcp (length list) later
      (record { request = request; upto = length later; moment = moment; fate = fate } ∷ [])
  turn_one list later request moment fate p may excused = (prefix_length list later p, may, excused, omega arith)

  pub turn_front : (from : ℕ) (list : List Entry) (served others : List Served)
      → AreInTurn may_fail may_give tcp from list (served ++ others) → AreInTurn may_fail may_give tcp from list served
  turn_front from list [] others t = turn_below from list others t
  turn_front from list (s ∷ more) others t = (t.0, t.1, t.2, turn_front s.upto list more others t.3)

  pub turn_back : (from : ℕ) (list : List Entry) (served others : List Served)
      → AreInTurn may_fail may_give tcp from list (served ++ others) → AreInTurn may_fail may_give tcp from list others
  turn_back from list [] others t = t
  turn_back from list (s ∷ more) others t =
      turn_sooner from s.upto list others t.0 (turn_back s.upto list more others t.3)

  -- what goes out by a list is what goes out by a later one, whatever it is
  pub sent_later : {A : Type 0} (goes : List Entry → Served → List A) (from : ℕ) (list later : List Entry)
      (served : List Served) → IsPrefix list later → AreInTurn may_fail may_give tcp from list served
      → flat_map (λ (s : Served). goes (take s.upto later) s) served
      ≡ flat_map (λ (s : Served). goes (take s.upto list) s) served
  sent_later goes from list later [] p t = refl
  sent_later goes from list later (s ∷ more) p t =
      let same : take s.upto later ≡ take s.upto list =
      take_prefix s.upto list later p (turn_below s.upto list more t.3) in
      rw (same, sent_later goes s.upto list later more p t.3) refl

  -- the same, and what goes out for one more
  pub sent_more : {A : Type 0} (goes : List Entry → Served → List A) (from : ℕ) (list later : List Entry)
      (served : List Served) (s : Served) → IsPrefix list later → AreInTurn may_fail may_give tcp from list served
      → s.upto ≡ length later
      → flat_map (λ (s : Served). goes (take s.upto later) s) (served ++ s ∷ [])
      ≡ flat_map (λ (s : Served). goes (take s.upto list) s) served ++ goes later s
  sent_more goes from list later served s p t whole =
      let last : take s.upto later ≡ later = ap (λ n. take n later) whole ∙ take-length later in
      flat_map-append (λ (s : Served). goes (take s.upto later) s) served (s ∷ [])
      ∙ (rw (sent_later goes from list later served p t, last)
      (ap (λ xs. flat_map (λ (s : Served). goes (take s.upto list) s) served ++ xs) (append-nil (goes later s))))

pub losses_more : (served : List Served) (s : Served) → losses (served ++ s ∷ []) ≡ losses served + loss s.fate
losses_more [] s = omega arith
losses_more (x ∷ served) s = omega (arith, losses_more served s)

-- ---- what excuses that a NOTIFY got no reply
excuse_more : (a b : Type 0) (tcp : Bool) (fate : Fate) (request : Packet) → (a → b) → IsExcused a tcp fate request
    → IsExcused b tcp fate request
excuse_more a b tcp Sent request more e = e
excuse_more a b tcp Lost request more e = e
excuse_more a b tcp Unheard request more e = (more e.0, e.1)

pub turn_excused : (a b : Type 0) (may_give : ℕ → Bool) (tcp : Bool) (from : ℕ) (list : List Entry)
    (served : List Served) → (a → b) → AreInTurn a may_give tcp from list served
    → AreInTurn b may_give tcp from list served
turn_excused a b may_give tcp from list [] more t = t
turn_excused a b may_give tcp from list (s ∷ served) more t = (
  t.0,
  t.1,
  excuse_more a b tcp s.fate s.request more t.2,
  turn_excused a b may_give tcp s.upto list served more t.3,
)

pub still_excused : (unheard : Bool) (may_fail : Type 0) → excused unheard may_fail → may_fail
still_excused true may_fail e = e
still_excused false may_fail e = absurd e

pub excused_then : (unheard : Bool) (fate : Fate) (may_fail : Type 0) → excused unheard may_fail
    → excused (has_unheard unheard fate) may_fail
excused_then unheard Sent may_fail e = e
excused_then unheard Lost may_fail e = e
excused_then unheard Unheard may_fail e = still_excused unheard may_fail e

pub excused_now : (unheard : Bool) (fate : Fate) (may_fail : Type 0) (tcp : Bool) (request : Packet)
    → IsExcused may_fail tcp fate request → IsExcused (excused (has_unheard unheard fate) may_fail) tcp fate request
excused_now unheard Sent may_fail tcp request e = e
excused_now unheard Lost may_fail tcp request e = e
excused_now unheard Unheard may_fail tcp request e = e

pub excused_before : (one other : Bool) (may_fail : Type 0) → excused one may_fail → excused (one || other) may_fail
excused_before true other may_fail e = e
excused_before false other may_fail e = absurd e

pub excused_after : (one other : Bool) (may_fail : Type 0) → excused other may_fail → excused (one || other) may_fail
excused_after true other may_fail e = still_excused other may_fail e
excused_after false other may_fail e = e
