-- What a message decides after others.
use Rattle.std.proofs.Common.{◌≡◌, ℕ, ◌+◌, ◌≤◌, false, List, ◌++◌, length, refl, Result, Ok, arith}
use Rattle.std.specs.Prelude.{◌==◌, nat_lt, IfOk}
use Rattle.std.specs.declared.alloc.AllocError.{AllocError}
use Rattle.std.proofs.lemmas.Bool.Decides.{nat_tests}
use Rattle.dz_name.specs.Words.{Octets}
use Rattle.dz_record.specs.Record.{Record}
use Rattle.dz_message.specs.Message.{Content}
use Rattle.dz_message.specs.Reading.{message_of}
use Rattle.dz_take.specs.declared.state.State.{State}
use Rattle.dz_take.specs.Outcome.{answers_in}
use Rattle.dz_take.specs.Transfer.{Transfer}
use Rattle.dz_take.specs.inner.Following.{Follows, content_decides, octets_decide}

-- a message that is read
module _ (transfer : Transfer) (used : ℕ) (before : List Record) (message : Octets) (content : Content)
    (fits : used + 2 + length message ≤ 67108864) (reads : message_of message ≡ Ok content) where
  read_is : octets_decide transfer used before message ≡ content_decides transfer (used == 0) before content
  read_is = let t : nat_lt 67108864 (used + 2 + length message) ≡ false = grind (arith, nat_tests) in
      rw (t, reads) refl

  answers_are : answers_in message ≡ content.answers
  unfolding answers_in
  answers_are = rw reads refl

  pub read_follows : (r : Result State AllocError) → IfOk r
      (λ s. Follows transfer (content_decides transfer (used == 0) before content) (before ++ content.answers) s)
      → IfOk r (λ s. Follows transfer (octets_decide transfer used before message) (before ++ answers_in message) s)
  read_follows r follows = rw (read_is, answers_are) follows
