-- A log before a record joins, and after.
use Rattle.std.proofs.Common.{◌≡◌, ℕ, ◌+◌, ◌<◌, Bool, false, List, [], ◌∷◌, ◌++◌, length, Option, Some, sym, subst}
use Rattle.std.proofs.Common.{◌∙◌, arith}
use Rattle.std.proofs.lemmas.Option.{same_Some}
use Rattle.dz_disk.specs.Disk.{IsSure, Leaves, IsQuiet}
use Rattle.dz_disk.specs.RecordLog.{log, records, IsPayload, ArePayloads, IsAtRest, IsLeft, IsSettled, IsLog}
use Rattle.dz_disk.proofs.OctetLemmas.{longer}
use Rattle.dz_disk.proofs.MomentLemmas.{no_call}
use Rattle.dz_disk.proofs.RecordLemmas.{fits_push, length-log_push}
use Rattle.dz_disk.proofs.CrashLemmas.{rest_records, rest_left}

module _ {I : Type 0} (reads : List ℕ → Bool) (is_of : I → List (List ℕ) → Type 0) (may_leave : List ℕ → Type 0) where
  pub keeps : (index : I) (end : ℕ) (file : List ℕ) (list : List (List ℕ)) → IsAtRest list file
      → ArePayloads reads list → end ≡ length (log list) → IsSure file may_leave → is_of index list
      → IsSettled reads is_of may_leave index end file
  keeps index end file list rest fits ends sure known =
      subst (λ l. IsAtRest l file → ArePayloads reads l → end ≡ length (log l) → is_of index l
      → IsSettled reads is_of may_leave index end file) (rest_records reads list file fits rest)
      (λ r f e k. record { rest = r; fits = f; ends = e; sure = sure; known = k }) rest fits ends known

  -- where the gate is
  pub gate_there : (index : I) (end : ℕ) (file : List ℕ) → IsSettled reads is_of may_leave index end file
      → end < length file
  gate_there index end file kept =
      omega (arith, kept.ends, longer file (log (records reads file)) 0 kept.rest.junk kept.rest.are)

  -- another index of the same list
  pub known_so : (index new : I) (end : ℕ) (file : List ℕ) → IsSettled reads is_of may_leave index end file
      → ((list : List (List ℕ)) → is_of index list → is_of new list) → IsSettled reads is_of may_leave new end file
  known_so index new end file kept goes = record {
    rest = kept.rest;
    fits = kept.fits;
    ends = kept.ends;
    sure = kept.sure;
    known = goes (records reads file) kept.known;
  }

-- the file after a record joined
pub record HasJoined (told : Option (List ℕ)) (list : List (List ℕ)) (payload : List ℕ) : Type 0 where
  pub file : List ℕ
  pub is : told ≡ Some file
  pub rest : IsAtRest (list ++ payload ∷ []) file

pub joined_kept : {I : Type 0} (reads : List ℕ → Bool) (is_of : I → List (List ℕ) → Type 0)
    (old may_leave : List ℕ → Type 0) (index new : I) (end : ℕ) (file g payload : List ℕ) (told : Option (List ℕ))
    → IsSettled reads is_of old index end file → IsPayload reads payload → HasJoined told (records reads file) payload
    → told ≡ Some g → IsSure g may_leave → is_of new (records reads file ++ payload ∷ [])
    → IsSettled reads is_of may_leave new (end + (9 + length payload)) g
joined_kept reads is_of old may_leave index new end file g payload told kept is joined same sure known =
    let one : joined.file ≡ g = same_Some _ _ (sym joined.is ∙ same) in
    keeps reads is_of may_leave new (end + (9 + length payload)) g (records reads file ++ payload ∷ [])
    (subst (λ l. IsAtRest (records reads file ++ payload ∷ []) l) one joined.rest)
    (fits_push reads (records reads file) payload kept.fits is)
    (omega (arith, kept.ends, length-log_push (records reads file) payload)) sure known

pub joined_records : (reads : List ℕ → Bool) (list : List (List ℕ)) (payload file : List ℕ) → ArePayloads reads list
    → IsPayload reads payload → IsAtRest (list ++ payload ∷ []) file → records reads file ≡ list ++ payload ∷ []
joined_records reads list payload file fits is rest =
    rest_records reads (list ++ payload ∷ []) file (fits_push reads list payload fits is) rest

-- where no call is made
pub idle : {D I : Type 0} (clock : D → ℕ) (left_from : D → ℕ → List ℕ → Type 0) (reads : List ℕ → Bool) (is_of : I
    → List (List ℕ) → Type 0) (may_leave : List ℕ → Type 0) (d : D) (index : I) (end : ℕ) (file payload : List ℕ)
    → IsSettled reads is_of may_leave index end file → ((c : List ℕ) → left_from d (clock d) c → may_leave c)
    → Leaves clock left_from d d (IsLeft (records reads file) payload)
idle clock left_from reads is_of may_leave d index end file payload kept alone =
    no_call clock left_from d (IsLeft (records reads file) payload)
    (λ c left. subst (λ l. IsLeft (records reads file) payload l) (sym (kept.sure c (alone c left)))
    (rest_left (records reads file) payload file kept.rest))

-- after reads alone; whether one of them failed may join
pub read_log_so : {D I : Type 0} (file : D → Option (List ℕ)) (may_leave : D → List ℕ → Type 0) (clock : D → ℕ)
    (left_from : D → ℕ → List ℕ → Type 0) (reads : List ℕ → Bool) (is_of : I → List (List ℕ) → Type 0) (old new : D)
    (index : I) (end : ℕ) (was now : Bool)
    → IsLog reads is_of (file old) (may_leave old) index end was → (now ≡ false → was ≡ false)
    → IsQuiet file may_leave clock left_from old new → IsLog reads is_of (file new) (may_leave new) index end now
read_log_so file may_leave clock left_from reads is_of old new index end was now log joins quiet = record {
  within = log.within;
  kept = λ able f told.
      let kept = log.kept (joins able) f (sym quiet.same ∙ told) in
      record {
        rest = kept.rest;
        fits = kept.fits;
        ends = kept.ends;
        sure = λ c may. kept.sure c (quiet.crash c may);
        known = kept.known;
      };
}
