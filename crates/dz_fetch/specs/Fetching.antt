-- Meaning: what is read of a job's transfer from a source, and over a link that was dialled for it.
use Rattle.std.specs.Prelude.{⊤, ◌≡◌, ℕ, List, [], ◌∷◌, take, Option, None, Some, IsSome}
use Rattle.dz_name.specs.Words.{Octets}
use Rattle.dz_io.specs.Counts.{HasRisen}
use Rattle.dz_io.specs.Device.{Gains, Tells, IsAtEnd}
use Rattle.dz_io.specs.Links.{Dialled}
use Rattle.dz_message.specs.Frame.{stream, messages_in}
use Rattle.dz_take.specs.Outcome.{decided}
use Rattle.dz_take.specs.Taken.{Taken}
use Rattle.dz_job.specs.Job.{JobOf, transfer_for}
use Rattle.dz_job.specs.Stream.{IsReadOf}
use Rattle.dz_fetch.specs.Query.{query_of}
use Rattle.dz_fetch.specs.declared.fetched.Fetched.{Fetched}
use Rattle.dz_fetch.specs.declared.fetched.Fetched.TheVariants as fetched

-- a job's transfer was read from the given octets: it has their whole frames, and its outcome is that of all of them.
-- Where they decide something, nothing past them was given; where they don't, nothing is left
pub record IsReadFrom (job : JobOf) (given : Octets) (left : Option Octets) (read : Taken) : Type 0 where
  pub transfer : read.transfer ≡ transfer_for job
  pub frames : read.octets ≡ stream (messages_in given)
  pub all : IsReadOf (transfer_for job) given read.octets
  pub nothing_behind : IsSome (decided (transfer_for job) (messages_in given)) → given ≡ read.octets
  pub ended : decided (transfer_for job) (messages_in given) ≡ None → IsAtEnd left

-- it was read from a source, of the octets that it gave
pub record IsTakenFrom (job : JobOf) (before after left : Option Octets) (read : Taken) : Type 0 where
  pub given : Octets
  pub gains : Gains given before after
  pub is : IsReadFrom job given left read

-- it was read over a link, to which the job's query was written
pub record IsFetchedOver (job : JobOf) (link : Dialled) (read : Taken) : Type 0 where
  pub asked : Tells (query_of job) link.written
  pub given : Octets
  pub gave : Tells given link.read
  pub is : IsReadFrom job given link.left read

-- what a source leaves, by the answer
abbrev pub IsTaken : Fetched → JobOf → Option Octets → Option Octets → Option Octets → Type 0
IsTaken (fetched.Finished read) job before after left = IsTakenFrom job before after left read
IsTaken fetched.LinkFault job before after left = ⊤
IsTaken fetched.OutOfMemory job before after left = ⊤

-- a link goes to the job's primary, and what was written to it is the job's query or a beginning of it
pub record IsDialledFor (job : JobOf) (link : Dialled) : Type 0 where
  pub peer : link.peer ≡ job.flight.primary
  pub written : (n : ℕ) × Tells (take n (query_of job)) link.written

-- the link that was made for the job, by the answer; without one the dial failed
abbrev pub IsFetched : Fetched → JobOf → Option Dialled → Type 0
IsFetched (fetched.Finished read) job (Some link) = (link.peer ≡ job.flight.primary) × IsFetchedOver job link read
IsFetched (fetched.Finished read) job None = ⊥
IsFetched fetched.LinkFault job (Some link) = IsDialledFor job link
IsFetched fetched.LinkFault job None = ⊤
IsFetched fetched.OutOfMemory job (Some link) = IsDialledFor job link
IsFetched fetched.OutOfMemory job None = ⊥

-- a link was dialled; or the dial failed, and the count of faults rose
abbrev pub ShowsDial : Option Dialled → ℕ → ℕ → Type 0
ShowsDial (Some link) before now = ⊤
ShowsDial None before now = HasRisen before now

-- the link, where one was dialled
abbrev pub links_of : Option Dialled → List Dialled
links_of None = []
links_of (Some link) = link ∷ []

-- a job's transfer was fetched over at most one link, which joined those that came back to the dialer
pub record IsFetch (result : Fetched) (job : JobOf) (before after : Option (List Dialled))
    (faults now : ℕ) : Type 0 where
  pub link : Option Dialled
  pub fetched : IsFetched result job link
  pub gains : Gains (links_of link) before after
  pub shown : ShowsDial link faults now

-- a count of faults rose where the answer is a link fault, and is unchanged where it is another
abbrev pub Counts : Fetched → ℕ → ℕ → Type 0
Counts (fetched.Finished read) before now = now ≡ before
Counts fetched.LinkFault before now = HasRisen before now
Counts fetched.OutOfMemory before now = now ≡ before
