-- Meaning: what a reading answers (RFC 1034 section 4.3.2).
use Rattle.std.specs.Prelude.{ℕ, Bool, List}
use Rattle.dz_name.specs.Words.{Octets}
use Rattle.dz_history.specs.declared.entry.Entry.{Entry}
use Rattle.dz_history.specs.After.{after}
use Rattle.dz_reply.specs.Reply.{Reply, reply_of}
use Rattle.dz_desk.specs.Seen.{Viewed, raised}

-- the reply to a request after a list of taken transfers
abbrev pub reply_at : List Entry → Octets → ℕ → Bool → Reply
reply_at list octets moment tcp = reply_of (after list).table octets moment tcp

-- a reading after one more look, which saw this list, and at rest
abbrev pub answered : Viewed → List Entry → Viewed
answered r list = record r { list = list; sights = raised r.sights }
