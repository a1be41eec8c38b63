-- What was written, and what a call answers.
use Rattle.std.proofs.Common.{Bool, ◌≡◌, ℕ, List, length, refl, sym, Some, true}
use Rattle.std.specs.Prelude.{IsSome}
use Rattle.dz_name.specs.Name.{IsWithin, is_within}
use Rattle.dz_name.proofs.PartLemmas.{within_suffix}
use Rattle.dz_zone.specs.Version.{Zone}
use Rattle.dz_table.specs.Slot.{SlotOf, IsSlot}
use Rattle.dz_reply.specs.declared.reply.Turn.{Turn}
use Rattle.dz_reply.specs.declared.reply.Turn.TheVariants.{Silent as Nothing_told, Written, Notify as Notified}
use Rattle.dz_request.specs.Request.{request}
use Rattle.dz_request.specs.declared.request.Request.{Request}
use Rattle.dz_request.specs.declared.request.Request.TheVariants.{Silent, Curt, NewerEdns, NotImp, Notify, Asks}
use Rattle.dz_reply.specs.Reply.{written, notify, reply_for, reply_of, IsReply, IsNotifyAnyhow}
use Rattle.dz_header.specs.Writing.{Writing}

pub turned : (w : Writing) (text : List ℕ) (turn : Turn) → w.octets ≡ Some text
    → ((xs : List ℕ) → w.octets ≡ Some xs → turn ≡ Written (length xs)) → IsReply turn w (written text)
turned w text turn e h = rw (h text e) (text, e, refl, refl)

pub some_written : (w : Writing) (text : List ℕ) → w.octets ≡ Some text → IsSome w.octets
some_written w text e = rw e refl

pub name_within : (slot : SlotOf) (version : Zone) (name : List (List ℕ)) → IsSlot slot → Some version ≡ slot.version
    → IsWithin name slot.zone → is_within name version.apex ≡ true
name_within slot version name is e within =
    let apex : version.apex ≡ slot.zone = is.apex version (sym e) in
    rw apex ((within_suffix name slot.zone).1 within)

-- a request that is answered as a NOTIFY is so at any slots, moment and transport
notify_for : (slots others : List SlotOf) (octets : List ℕ) (moment later : ℕ) (tcp stream : Bool)
    (name : List (List ℕ)) (r : Request)
    → reply_for slots octets moment tcp r ≡ notify name → reply_for others octets later stream r ≡ notify name
unfolding reply_for
notify_for slots others octets moment later tcp stream name Silent h = absurd (cc)
notify_for slots others octets moment later tcp stream name (Curt header code) h = absurd (cc)
notify_for slots others octets moment later tcp stream name (NewerEdns asked) h = absurd (cc)
notify_for slots others octets moment later tcp stream name (NotImp asked) h = absurd (cc)
notify_for slots others octets moment later tcp stream name (Notify asked) h = h
notify_for slots others octets moment later tcp stream name (Asks asked) h = absurd (cc)

pub notify_any : (slots others : List SlotOf) (octets : List ℕ) (moment later : ℕ) (tcp stream : Bool)
    (name : List (List ℕ))
    → reply_of slots octets moment tcp ≡ notify name → reply_of others octets later stream ≡ notify name
unfolding reply_of
notify_any slots others octets moment later tcp stream name h =
    notify_for slots others octets moment later tcp stream name (request octets) h

pub notify_anyhow : (slots : List SlotOf) (octets : List ℕ) (moment : ℕ) (tcp : Bool) (w : Writing) (turn : Turn)
    → IsReply turn w (reply_of slots octets moment tcp) → IsNotifyAnyhow turn octets
notify_anyhow slots octets moment tcp w Nothing_told is = tt
notify_anyhow slots octets moment tcp w (Written count) is = tt
notify_anyhow slots octets moment tcp w (Notified name) is =
    λ others later stream. notify_any slots others octets moment later tcp stream name is
