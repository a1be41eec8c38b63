-- Meaning: the script of a generated life of a server with a given number of zones. A catalog lists them, and each is
-- transferred; each tenth breaks off and comes again. Then the catalog names the first under another label, which
-- resets it, and the others change by differences. All are asked for before and after they expire, and a name of no
-- zone.
use Rattle.std.specs.Prelude.{ℕ, ◌+◌, ◌-◌, ◌/◌, ◌%◌, ◌++◌, Bool, ◌==◌, ◌&&◌, nat_lt, not, List, filter, flat_map}
use Rattle.std.specs.Prelude.{codes, if◌then◌else◌}
use Rattle.std.specs.List.{range_with_len}
use Rattle.dz_name.specs.Words.{Octets}
use Rattle.dz_gen.specs.Texts.{named, transfer, ask_line}
use Rattle.dz_gen.specs.Records.{www}
use Rattle.dz_gen.specs.Messages.{query, catalog_begins, catalog_member, catalog_ends, catalog_changes, part_of}
use Rattle.dz_gen.specs.Messages.{whole_of, changes_of}

-- the zones' numbers
abbrev pub numbers : ℕ → List ℕ
numbers n = range_with_len 1 n

-- whether a zone is each tenth, whose first transfer breaks off
abbrev pub is_tenth : ℕ → Bool
is_tenth k = k % 10 == 0

-- every other zone but the first
abbrev pub is_changed : ℕ → Bool
is_changed k = nat_lt 1 k && not (is_tenth k)

-- ---- jobs, by their tickets, in this order
-- the ticket of a zone's first transfer; that of the catalog's is 1
abbrev pub first_ticket : ℕ → ℕ
first_ticket k = k + 1

-- the ticket of a tenth zone's second transfer
abbrev pub again_ticket : ℕ → ℕ → ℕ
again_ticket n k = n + 1 + k / 10

-- the ticket of the catalog's change
abbrev pub catalog_ticket : ℕ → ℕ
catalog_ticket n = n + n / 10 + 2

-- the ticket of the first zone's transfer after its reset
abbrev pub reset_ticket : ℕ → ℕ
reset_ticket n = n + n / 10 + 3

-- the ticket of another zone's change
abbrev pub change_ticket : ℕ → ℕ → ℕ
change_ticket n k = n + n / 10 + 2 + (k - k / 10)

-- ---- the parts of the script
-- the lines of the configuration: the catalog and its group `strict`
abbrev pub settings : Octets
settings = codes "catalog cat.test. present 192.0.2.1\ngroup cat.test. strict require 192.0.2.2\n"

-- the catalog with these zones
abbrev pub catalog_text : List ℕ → Octets
catalog_text ks = transfer (codes "1000") 1 ((catalog_begins ++ flat_map catalog_member ks) ++ catalog_ends)

-- a zone's first transfer; each tenth breaks off
abbrev pub first_transfer : ℕ → Octets
first_transfer k = transfer (codes "1000") (first_ticket k)
    (if is_tenth k then part_of (first_ticket k) k else whole_of (first_ticket k) k)

-- the transfer of a tenth zone once more, whole
abbrev pub next_transfer : ℕ → ℕ → Octets
next_transfer n k = transfer (codes "1060") (again_ticket n k) (whole_of (again_ticket n k) k)

-- the first zone's label changes, and it is transferred once more
abbrev pub reset : ℕ → Octets
reset n = transfer (codes "1100") (catalog_ticket n) (catalog_changes (catalog_ticket n))
    ++ transfer (codes "1100") (reset_ticket n) (whole_of (reset_ticket n) 1)

-- a zone's change to serial 2
abbrev pub change_transfer : ℕ → ℕ → Octets
change_transfer n k = transfer (codes "1100") (change_ticket n k) (changes_of (change_ticket n k) k)

-- a zone is asked for at a moment
abbrev pub asked : Octets → ℕ → Octets
asked moment k = ask_line moment (query k (www k))

-- the settings and all transfers
abbrev pub transfers : ℕ → Octets
transfers n =
    ((((settings ++ catalog_text (numbers n))
    ++ flat_map first_transfer (numbers n))
    ++ flat_map (next_transfer n) (filter is_tenth (numbers n)))
    ++ reset n)
    ++ flat_map (change_transfer n) (filter is_changed (numbers n))

-- all zones, a name of none, and all zones when they have expired
abbrev pub questions : ℕ → Octets
questions n =
    (flat_map (asked (codes "1150")) (numbers n)
    ++ ask_line (codes "1150") (query 0 (named (codes "other."))))
    ++ flat_map (asked (codes "1700")) (numbers n)

-- the whole script
abbrev pub script : ℕ → Octets
script n = transfers n ++ questions n
