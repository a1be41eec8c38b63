-- Meaning: CNAME and DNAME records are followed from name to name (RFC 1034 sections 3.6.2 and 4.3.2, RFC 6672 section
-- 3.2).
use Rattle.std.specs.Prelude.{ℕ, zero, suc, ◌-◌, Bool, ◌==◌, ◌&&◌, ◌||◌, not, List, [], ◌∷◌, ◌++◌, length, take}
use Rattle.std.specs.Prelude.{Option, Some, None, if◌then◌else◌}
use Rattle.std.specs.List.{list_any}
use Rattle.dz_name.specs.Words.{Name, Kind}
use Rattle.dz_name.specs.Name.{same_name, is_within, fitting}
use Rattle.dz_name.specs.declared.dns.TheConstants.{ALIASES, TYPE_ANY, TYPE_CNAME, TYPE_DNAME}
use Rattle.dz_record.specs.Record.{Record, target_of}
use Rattle.dz_lookup.specs.Found.{Found, here, alias, no_data, no_name, referral, rename, found, meaning}
use Rattle.dz_lookup.specs.declared.chain.Last as code
use Rattle.dz_lookup.specs.declared.chain.Last.TheVariants as code_last

-- names that were looked up, each with the CNAME record found for it or the DNAME record above it
abbrev pub Trail : Type 0
Trail = List (Name × Record)

-- how a chain ends
pub data Ending : Type 0 where
  ended : Found → Name → Ending  -- what is found for the last name, and this name
  stopped : Ending  -- no further name is looked up
  too_long : Record → Ending  -- the name that this DNAME gives to the last name has more than 255 octets

-- a chain: its steps, and how it ends
pub record Chased : Type 0 where
  pub trail : Trail
  pub ending : Ending

-- the name with the target of a DNAME in place of its owner, where it has at most 255 octets (RFC 6672 section 2.2)
abbrev pub redirected : Name → Record → Option Name → Option Name
redirected name r None = None
redirected name r (Some target) = fitting (take (length name - length r.owner) name ++ target)

-- the name that a DNAME gives to a name below its owner (RFC 6672 section 2.2)
abbrev pub renamed : Name → Record → Option Name
renamed name r = redirected name r (target_of r)

-- the name to which a CNAME or a DNAME leads from a name
abbrev pub led_to : Name → Record → Option Name
led_to name r = if r.kind == TYPE_DNAME then renamed name r else target_of r

-- the chain has looked up this name already
abbrev pub was_looked_up : Trail → Name → Bool
was_looked_up trail name = list_any (λ a. same_name a.0 name) trail

-- the name that is looked up next: one that is within the apex and wasn't looked up before
abbrev pub next_name : Name → Trail → Option Name → Option Name
next_name apex trail None = None
next_name apex trail (Some target) =
    if is_within target apex && not (was_looked_up trail target) then Some target else None

-- types for which the CNAME made of a DNAME is the answer: CNAME and ANY
abbrev pub is_answered : Kind → Bool
is_answered kind = kind == TYPE_CNAME || kind == TYPE_ANY

-- the chain goes on with the next name, or stops where there is none
abbrev pub onward : (Trail → Name → Chased) → Trail → Option Name → Chased
onward next trail None = record { trail = trail; ending = stopped }
onward next trail (Some name) = next trail name

-- a DNAME was found: the chain goes on with the name that it gives, or ends where that name is too long
abbrev pub from_renamed : (Trail → Name → Chased) → Name → Kind → Trail → Name → Record → Option Name → Chased
from_renamed next apex kind trail name r None = record { trail = trail; ending = too_long r }
from_renamed next apex kind trail name r (Some new) =
    onward next (trail ++ (name, r) ∷ [])
    (if is_answered kind then None else next_name apex (trail ++ (name, r) ∷ []) (Some new))

-- the chain after what is found for a name: a CNAME or a DNAME joins the others and leads on, and all else ends it
abbrev pub continuation : (Trail → Name → Chased) → Name → Kind → Trail → Name → Found → Chased
continuation next apex kind trail name (alias r) =
    onward next (trail ++ (name, r) ∷ []) (next_name apex (trail ++ (name, r) ∷ []) (target_of r))
continuation next apex kind trail name (rename r) = from_renamed next apex kind trail name r (renamed name r)
continuation next apex kind trail name (here rs) = record { trail = trail; ending = ended (here rs) name }
continuation next apex kind trail name no_data = record { trail = trail; ending = ended no_data name }
continuation next apex kind trail name no_name = record { trail = trail; ending = ended no_name name }
continuation next apex kind trail name (referral rs) = record { trail = trail; ending = ended (referral rs) name }

-- the chain from a name on, where this many more steps may join
unfoldable pub chain_from : ℕ → Name → List Record → Kind → Trail → Name → Chased
chain_from zero apex zone kind trail name = record { trail = trail; ending = stopped }
chain_from (suc left) apex zone kind trail name =
    continuation (chain_from left apex zone kind) apex kind trail name (found apex zone name kind)

-- the chain of a name and a type: at most 16 steps
unfoldable pub chain_of : Name → List Record → Name → Kind → Chased
chain_of apex zone name kind = chain_from ALIASES apex zone kind [] name

-- how the code says that a chain ends
abbrev pub ending_of : code.Last → Ending
ending_of (code_last.Found found_last name) = ended (meaning found_last) name
ending_of code_last.Stopped = stopped
ending_of (code_last.NameTooLong renamer) = too_long renamer.now
