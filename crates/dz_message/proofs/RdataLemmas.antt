-- RDATA read field by field as a loop does.
use Rattle.std.proofs.Common.{◌≡◌, ℕ, ◌-◌, ◌+◌, ◌≤◌, ◌<◌, List, [], ◌++◌, length, drop, get_or, Result, Ok, Err, refl}
use Rattle.std.proofs.Common.{sym, ap, ◌∙◌, append_assoc, arith}
use Rattle.std.specs.Prelude.{nat_le, ◌==◌, true, false, ◌≢◌}
use Rattle.std.proofs.lemmas.List.{append-nil, drop_more, drop_all}
use Rattle.std.proofs.lemmas.Bool.Decides.{nat_tests}
use Rattle.dz_record.specs.declared.fields.Field.{Field}
use Rattle.dz_record.specs.declared.fields.Field.TheVariants.{FixedLength}
use Rattle.dz_message.specs.declared.fault.MessageFault.{MessageFault}
use Rattle.dz_message.specs.declared.fault.MessageFault.TheVariants.{BadRdata}
use Rattle.dz_message.specs.declared.fault.MessageError.{MessageError}
use Rattle.dz_message.specs.declared.fault.MessageError.TheVariants as errors
use Rattle.dz_message.specs.Reading.{◌>>=◌, octets_at, field_at, rdata_at}
use Rattle.dz_message.specs.Answers.{Fails}

pub no_octets : (m : List ℕ) (at end count : ℕ) → end ≤ at → octets_at m at end (count + 1) ≡ Err BadRdata
unfolding octets_at
no_octets m at end count h = let e : nat_le (count + 1) (end - at) ≡ false = grind (arith, nat_tests) in rw e refl

-- a reading preceded by the octets read before
abbrev pub behind : List ℕ → Result (List ℕ) MessageFault → Result (List ℕ) MessageFault
behind front read = read >>= λ rest. Ok (front ++ rest)

-- the first fields were read, from `at` to `offset`, and their octets appended to the old ones
pub record AreRead (m : List ℕ) (at end : ℕ) (fields : List Field) (old new : List ℕ) (offset i : ℕ) : Type 0 where
  pub front : List ℕ
  pub within : offset ≤ end
  pub new_is : new ≡ old ++ front
  pub whole : behind front (rdata_at m offset end (drop i fields)) ≡ rdata_at m at end fields

pub none_read : (m : List ℕ) (at end : ℕ) (fields : List Field) (old : List ℕ) → at ≤ end
    → AreRead m at end fields old old at 0
none_read m at end fields old le =
    record { front = []; within = le; new_is = sym (append-nil old); whole = same (rdata_at m at end fields) }
  where
    same : (read : Result (List ℕ) MessageFault) → behind [] read ≡ read
    same (Ok x) = refl
    same (Err f) = refl

regroup : (front piece : List ℕ) (read : Result (List ℕ) MessageFault)
    → behind front (read >>= λ rest. Ok (piece ++ rest)) ≡ behind (front ++ piece) read
regroup front piece (Ok rest) = ap (λ xs. Ok xs) (sym (append_assoc front piece rest))
regroup front piece (Err f) = refl

pub one_read : (m : List ℕ) (at end : ℕ) (fields : List Field) (old new more : List ℕ) (offset i next : ℕ)
    (piece : List ℕ) → AreRead m at end fields old new offset i → i < length fields
    → field_at m offset end (get_or fields i (FixedLength 0)) ≡ Ok (piece, next) → more ≡ new ++ piece → next ≤ end
    → AreRead m at end fields old more next (i + 1)
unfolding rdata_at
one_read m at end fields old new more offset i next piece so_far lt is more_is le =
    let step : behind so_far.front (rdata_at m offset end (drop i fields))
    ≡ behind (so_far.front ++ piece) (rdata_at m next end (drop (i + 1) fields)) =
    rw (drop_more fields i (FixedLength 0) lt, is)
    (regroup so_far.front piece (rdata_at m next end (drop (i + 1) fields))) in
    record {
      front = so_far.front ++ piece;
      within = le;
      new_is = more_is ∙ ap (λ xs. xs ++ piece) so_far.new_is ∙ append_assoc old so_far.front piece;
      whole = sym step ∙ so_far.whole;
    }

pub field_fails : (m : List ℕ) (at end : ℕ) (fields : List Field) (old new : List ℕ) (offset i : ℕ) (e : MessageError)
    → AreRead m at end fields old new offset i → i < length fields
    → Fails e (field_at m offset end (get_or fields i (FixedLength 0))) → Fails e (rdata_at m at end fields)
unfolding rdata_at
field_fails m at end fields old new offset i errors.OutOfMemory so_far lt is = tt
field_fails m at end fields old new offset i (errors.Fault f) so_far lt is =
    let step : behind so_far.front (rdata_at m offset end (drop i fields)) ≡ Err f =
    rw (drop_more fields i (FixedLength 0) lt, is) refl in
    sym so_far.whole ∙ step

pub all_read : (m : List ℕ) (at end : ℕ) (fields : List Field) (old new : List ℕ) (offset i : ℕ)
    → AreRead m at end fields old new offset i → length fields ≤ i → offset ≡ end
    → (piece : List ℕ) × (rdata_at m at end fields ≡ Ok piece) × (new ≡ old ++ piece)
unfolding rdata_at
all_read m at end fields old new offset i so_far le is =
    let t : (offset == end) ≡ true = grind (arith, nat_tests) in
    let step : behind so_far.front (rdata_at m offset end (drop i fields)) ≡ Ok so_far.front =
    rw (drop_all i fields le, t) (ap (λ xs. Ok xs) (append-nil so_far.front)) in
    (so_far.front, sym so_far.whole ∙ step, so_far.new_is)

pub left_over : (m : List ℕ) (at end : ℕ) (fields : List Field) (old new : List ℕ) (offset i : ℕ)
    → AreRead m at end fields old new offset i → length fields ≤ i → offset ≢ end
    → rdata_at m at end fields ≡ Err BadRdata
unfolding rdata_at
left_over m at end fields old new offset i so_far le not_end =
    let t : (offset == end) ≡ false = grind (arith, nat_tests) in
    let step : behind so_far.front (rdata_at m offset end (drop i fields)) ≡ Err BadRdata =
    rw (drop_all i fields le, t) refl in
    sym so_far.whole ∙ step
