-- Tasks of a store, one after another.
use Rattle.std.proofs.Common.{◌≡◌, ◌≢◌, ◌+◌, ◌<◌, ◌≤◌, ℕ, false, List, [], ◌∷◌, ◌++◌, map, length}
use Rattle.std.proofs.Common.{Option, Some, Result, Ok, Err, refl, sym, ap, subst, ◌∙◌, append_assoc}
use Rattle.std.proofs.Common.{inl, inr, ⊎_elim}
use Rattle.std.specs.Prelude.{◌⊎◌, IfErr, IsErrOf, OnOk}
use Rattle.std.proofs.lemmas.List.{append-nil, map-append}
use Rattle.dz_io.specs.Counts.{HasRisen}
use Rattle.dz_name.specs.Words.{Name, Octets}
use Rattle.dz_disk.specs.Disk.{IsSure, Leaves}
use Rattle.dz_disk.specs.RecordLog.{limit, records, IsLeft, Joins}
use Rattle.dz_disk.specs.Several.{IsLeftAmong, JoinInOrder}
use Rattle.dz_store.specs.declared.fault.StoreFault.{StoreFault}
use Rattle.dz_store.specs.declared.fault.StoreFault.TheVariants.{DiskFault, Full, Unfit, OutOfMemory}
use Rattle.dz_store.specs.Payload.{reads}
use Rattle.dz_store.specs.Store.{StoreOf, HasFailed}
use Rattle.dz_provision.specs.Keeping.{Task, record_of, zone_of, IsUnfit}
use Rattle.dz_provision.specs.KeepingAnswer.{IsWhy, IsStopped}
use Rattle.dz_provision.specs.inner.Tasks.{AreDone, ArePassed, LeavesTasks}
use Rattle.dz_provision.proofs.MomentLemmas.{no_call, both_calls, wider}

-- what is left among the first ones is left among all
among_more : (list xs ys : List Octets) (before c : Octets) → IsLeftAmong list xs before c
    → IsLeftAmong list (xs ++ ys) before c
among_more list xs ys before c (inl same) = inl same
among_more list xs ys before c (inr at) =
    inr (record {
      done = at.done;
      last = at.last;
      rest = at.rest ++ ys;
      are = ap (λ l. l ++ ys) at.are ∙ append_assoc at.done (at.last ∷ at.rest) ys;
      left = at.left;
    })

-- and what is left among later ones, where the first ones joined
among_later : (list now xs ys : List Octets) (before here c : Octets) → now ≡ list ++ xs
    → (c ≡ here → IsLeftAmong list (xs ++ ys) before c) → IsLeftAmong now ys here c
    → IsLeftAmong list (xs ++ ys) before c
among_later list now xs ys before here c is first (inl same) = first same
among_later list now xs ys before here c is first (inr at) =
    inr (record {
      done = xs ++ at.done;
      last = at.last;
      rest = at.rest;
      are = ap (λ l. xs ++ l) at.are ∙ sym (append_assoc xs at.done (at.last ∷ at.rest));
      left = subst (λ l. IsLeft l at.last c) (ap (λ l. l ++ at.done) is ∙ append_assoc list xs at.done) at.left;
    })

one_among : (list : List Octets) (last before c : Octets) → IsLeft list last c → IsLeftAmong list (last ∷ []) before c
one_among list last before c left = inr (record {
  done = [];
  last = last;
  rest = [];
  are = refl;
  left = subst (λ l. IsLeft l last c) (sym (append-nil list)) left;
})

record_of_both : (xs ys : List Task) → map record_of (xs ++ ys) ≡ map record_of xs ++ map record_of ys
record_of_both xs ys = map-append record_of xs ys

-- ---- answers
pub if_ok : {E : Type 0} (r : Result (Unit {0}) E) {P Q : Type 0} → (P → Q) → OnOk r P → OnOk r Q
if_ok (Ok done) more p = more p
if_ok (Err e) more p = p

pub if_err : {E : Type 0} (r : Result (Unit {0}) E) {P Q : E → Type 0} → ((e : E) → P e → Q e) → IfErr r P → IfErr r Q
if_err (Ok done) more p = p
if_err (Err e) more p = more e p

module _ {D : Type 0} (file : D → Option Octets) (faults : D → ℕ) where
  -- ---- what was done
  pub done_none : (a : StoreOf D) → AreDone file faults a a []
  done_none a = record { joined = λ f told. (f, told, sym (append-nil (records reads f))); able = refl; same = refl }

  join_both : (a b c : Option Octets) (xs ys : List Task) → JoinInOrder reads a b (map record_of xs)
      → JoinInOrder reads b c (map record_of ys) → JoinInOrder reads a c (map record_of (xs ++ ys))
  join_both a b c xs ys one two = λ f told.
      let g = one f told in
      let h = two g.0 g.1 in (
        h.0,
        h.1,
        h.2 ∙ (ap (λ l. l ++ map record_of ys) g.2 ∙ (append_assoc (records reads f) (map record_of xs)
            (map record_of ys) ∙ ap (λ l. records reads f ++ l) (sym (record_of_both xs ys)))),
      )

  pub done_both : (a b c : StoreOf D) (xs ys : List Task) → AreDone file faults a b xs → AreDone file faults b c ys
      → AreDone file faults a c (xs ++ ys)
  done_both a b c xs ys one two = record {
    joined = join_both (file a.disk) (file b.disk) (file c.disk) xs ys one.joined two.joined;
    able = two.able ∙ one.able;
    same = two.same ∙ one.same;
  }

  pub done_one : (a b : StoreOf D) (task : Task) → Joins reads (file a.disk) (file b.disk) (record_of task)
      → (a.has_failed ≡ false) × (b.has_failed ≡ false) → faults b.disk ≡ faults a.disk
      → AreDone file faults a b (task ∷ [])
  done_one a b task joins able same = record { joined = joins; able = able.1 ∙ sym able.0; same = same }

  -- ---- what was stopped
  pub stopped_more : (a b : StoreOf D) (xs ys : List Task) (zone : Name) (fault : StoreFault)
      → IsStopped file faults a b xs zone fault → IsStopped file faults a b (xs ++ ys) zone fault
  stopped_more a b xs ys zone fault s = record {
    done = s.done;
    task = s.task;
    rest = s.rest ++ ys;
    are = ap (λ l. l ++ ys) s.are ∙ append_assoc s.done (s.task ∷ s.rest) ys;
    own = s.own;
    joined = s.joined;
    able = s.able;
    why = s.why;
  }

  why_later : (a b c : StoreOf D) (xs : List Task) (task : Task) (fault : StoreFault) → AreDone file faults a b xs
      → IsWhy faults b c task fault → IsWhy faults a c task fault
  why_later a b c xs task DiskFault one why = (
    why.0,
    ⊎_elim (λ failed. inl (sym one.able ∙ failed))
        (λ risen. inr (subst (λ n. HasRisen n (faults c.disk)) one.same risen)) why.1,
  )
  why_later a b c xs task Full one why = why
  why_later a b c xs task Unfit one why = why
  why_later a b c xs task OutOfMemory one why = tt

  pub stopped_later : (a b c : StoreOf D) (xs ys : List Task) (zone : Name) (fault : StoreFault)
      → AreDone file faults a b xs → IsStopped file faults b c ys zone fault
      → IsStopped file faults a c (xs ++ ys) zone fault
  stopped_later a b c xs ys zone fault one s = record {
    done = xs ++ s.done;
    task = s.task;
    rest = s.rest;
    are = ap (λ l. xs ++ l) s.are ∙ sym (append_assoc xs s.done (s.task ∷ s.rest));
    own = s.own;
    joined = λ other. join_both (file a.disk) (file b.disk) (file c.disk) xs s.done one.joined (s.joined other);
    able = λ other. s.able other ∙ one.able;
    why = why_later a b c xs s.task fault one s.why;
  }

  -- the only task met a fault
  stays : (a b : StoreOf D) (fault : StoreFault) → ((fault ≡ DiskFault) ⊎ (b ≡ a)) → fault ≢ DiskFault → b ≡ a
  stays a b fault (inl disk) other = absurd (other disk)
  stays a b fault (inr same) other = same

  pub stopped_one : (a b : StoreOf D) (task : Task) (zone : Name) (fault : StoreFault)
      → zone ≡ zone_of task → ((fault ≡ DiskFault) ⊎ (b ≡ a)) → IsWhy faults a b task fault
      → IsStopped file faults a b (task ∷ []) zone fault
  stopped_one a b task zone fault own same why = record {
    done = [];
    task = task;
    rest = [];
    are = refl;
    own = own;
    joined = λ other. subst (λ (s : StoreOf D). JoinInOrder reads (file a.disk) (file s.disk) [])
        (sym (stays a b fault same other)) (done_none a).joined;
    able = λ other. ap (λ (s : StoreOf D). s.has_failed) (stays a b fault same other);
    why = why;
  }

  pub why_one : (a b : StoreOf D) (task : Task) (fault : StoreFault) → ((fault ≡ DiskFault) ⊎ (b ≡ a))
      → (IsErrOf {T = Unit {0}} (Err fault) DiskFault → HasFailed faults a b)
      → (IsErrOf {T = Unit {0}} (Err fault) Full → limit < a.end + 9 + length (record_of task))
      → (IsErrOf {T = Unit {0}} (Err fault) Unfit → IsUnfit task) → IsWhy faults a b task fault
  why_one a b task DiskFault same disk full unfit = disk refl
  why_one a b task Full same disk full unfit = subst (λ (s : StoreOf D). limit < s.end + 9 + length (record_of task))
      (sym (stays a b Full same (λ e. cc e))) (full refl)
  why_one a b task Unfit same disk full unfit = unfit refl
  why_one a b task OutOfMemory same disk full unfit = tt

-- ---- what crashes leave
module _ {D : Type 0} (file : D → Option Octets) (faults : D → ℕ) (may_leave : D → Octets → Type 0) (clock : D → ℕ)
    (left_from : D → ℕ → Octets → Type 0) where
  pub left_none : (a : StoreOf D) (all : List Task)
      → ((c : Octets) → left_from a.disk (clock a.disk) c → may_leave a.disk c)
      → (a.has_failed ≡ false → (f : Octets) → file a.disk ≡ Some f → IsSure f (may_leave a.disk))
      → LeavesTasks file clock left_from a a all
  left_none a all now sure = λ able f told. no_call clock left_from a.disk
      (IsLeftAmong (records reads f) (map record_of all) f) (λ c left. inl (sure able f told c (now c left)))

  pub left_one : (a b : StoreOf D) (task : Task) → (a.has_failed ≡ false → (f : Octets) → file a.disk ≡ Some f
      → Leaves clock left_from a.disk b.disk (IsLeft (records reads f) (record_of task)))
      → LeavesTasks file clock left_from a b (task ∷ [])
  left_one a b task crash = λ able f told. wider clock left_from a.disk b.disk
      (IsLeft (records reads f) (record_of task)) (IsLeftAmong (records reads f) (record_of task ∷ []) f)
      (λ c left. one_among (records reads f) (record_of task) f c left) (crash able f told)

  pub left_more : (a b : StoreOf D) (xs ys : List Task) → LeavesTasks file clock left_from a b xs
      → LeavesTasks file clock left_from a b (xs ++ ys)
  left_more a b xs ys left = λ able f told.
      wider clock left_from a.disk b.disk (IsLeftAmong (records reads f) (map record_of xs) f)
      (IsLeftAmong (records reads f) (map record_of (xs ++ ys)) f)
      (λ c l. subst (λ all. IsLeftAmong (records reads f) all f c) (sym (record_of_both xs ys))
      (among_more (records reads f) (map record_of xs) (map record_of ys) f c l))
      (left able f told)

  pub left_both : (a b c : StoreOf D) (xs ys : List Task) → ((d : D) (f : Octets) → file d ≡ Some f → may_leave d f)
      → ((d : D) (t : ℕ) (x : Octets) → t ≤ clock d → may_leave d x → left_from d t x)
      → AreDone file faults a b xs → LeavesTasks file clock left_from a b xs → LeavesTasks file clock left_from b c ys
      → LeavesTasks file clock left_from a c (xs ++ ys)
  left_both a b c xs ys may counts done one two = λ able f told.
      let g = done.joined f told in
      let first = left_more a b xs ys one able f told in
      let now = two (done.able ∙ able) g.0 g.1 in
      let all : List Octets = map record_of (xs ++ ys) in
      let here : IsLeftAmong (records reads f) all f g.0 =
      first.each g.0 (counts b.disk (clock a.disk) g.0 first.later (may b.disk g.0 g.1)) in
      let then : Leaves clock left_from b.disk c.disk (IsLeftAmong (records reads f) all f) =
      wider clock left_from b.disk c.disk (IsLeftAmong (records reads g.0) (map record_of ys) g.0)
      (IsLeftAmong (records reads f) all f)
      (λ x l. subst (λ every. IsLeftAmong (records reads f) every f x) (sym (record_of_both xs ys))
      (among_later (records reads f) (records reads g.0) (map record_of xs) (map record_of ys) f g.0 x g.2
      (λ same. subst (λ every. IsLeftAmong (records reads f) every f x) (record_of_both xs ys)
      (subst (λ y. IsLeftAmong (records reads f) all f y) (sym same) here)) l))
      now in
      both_calls clock left_from a.disk b.disk c.disk (IsLeftAmong (records reads f) all f) first then

  -- ---- all were done
  pub passed_none : (a : StoreOf D) → ArePassed file faults clock left_from a a []
  passed_none a = record { done = done_none file faults a; left = λ later more left. left }

  pub passed_more : (a b c : StoreOf D) (xs ys : List Task) → ((d : D) (f : Octets) → file d ≡ Some f → may_leave d f)
      → ((d : D) (t : ℕ) (x : Octets) → t ≤ clock d → may_leave d x → left_from d t x)
      → ArePassed file faults clock left_from a b xs → AreDone file faults b c ys
      → LeavesTasks file clock left_from b c ys → ArePassed file faults clock left_from a c (xs ++ ys)
  passed_more a b c xs ys may counts one done two = record {
    done = done_both file faults a b c xs ys one.done done;
    left =
        λ later more left. subst (λ all. LeavesTasks file clock left_from a later all) (sym (append_assoc xs ys more))
        (one.left later (ys ++ more) (left_both b c later ys more may counts done two left));
  }
