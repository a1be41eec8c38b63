-- Meaning: the lines of `produce`. Two fields have one space between them.
use Rattle.std.specs.Prelude.{ℕ, ◌-◌, ◌^◌, List, [], ◌∷◌, length, codes, Option, Some, None, option_map, if◌then◌else◌}
use Rattle.std.specs.Option.{option_and_then}
use Rattle.std.specs.Str.{bytes_eq}
use Rattle.dz_name.specs.Decimal.{number_of}
use Rattle.dz_settings.specs.Peer.{word_of}
use Rattle.dz_member.specs.declared.listing.Node.{Node}
use Rattle.dz_name.specs.Words.{Name, Octets}
use Rattle.dz_script.specs.Fields.{fields_of, one, two}
use Rattle.dz_script.specs.Settings.{name_of}
use Rattle.dz_produce.specs.declared.line.Line.{Line}
use Rattle.dz_produce.specs.declared.line.Line.TheVariants.{Catalog, Member, Drop, Change}

-- ---- fields
-- serials have 32 bits
abbrev pub serial_of : Octets → Option ℕ
serial_of text = number_of (2 ^ 32 - 1) text

-- a label is a name of one label
abbrev pub label_of : Octets → Option Octets
label_of text = option_and_then one (name_of text)

-- a catalog that may take the zone over, or `-` for none
abbrev pub coo_of : Octets → Option (Option Name)
coo_of text = if bytes_eq text (codes "-") then Some None else option_map Some (name_of text)

-- a word as a character string: its length in an octet, and its octets (RFC 1035 section 3.3)
abbrev pub group_of : Octets → Option Octets
group_of text = option_map (λ word. length word ∷ word) (word_of text)

-- a group put before others
abbrev pub in_front : Option Octets → Option (List Octets) → Option (List Octets)
in_front (Some group) (Some groups) = Some (group ∷ groups)
in_front _ _ = None

-- any number of words
unfoldable pub groups_of : List Octets → Option (List Octets)
groups_of [] = Some []
groups_of (field ∷ fields) = in_front (group_of field) (groups_of fields)

-- ---- the four forms, by the fields after the first
-- a catalog of what its fields were read as
abbrev pub catalog_from : Option Name → Option ℕ → Option Line
catalog_from (Some apex) (Some serial) = Some (Catalog apex serial)
catalog_from _ _ = None

-- `<apex> <serial>`
abbrev pub catalog_of : List Octets → Option Line
catalog_of fields = option_and_then (λ f. catalog_from (name_of f.0) (serial_of f.1)) (two fields)

-- a node of what its fields were read as
abbrev pub node_from : Option Octets → Option Name → Option (Option Name) → Option (List Octets) → Option Node
node_from (Some label) (Some zone) (Some coo) (Some groups) =
    Some (record { label = label; zone = zone; coo = coo; groups = groups })
node_from _ _ _ _ = None

-- `<label> <zone> <coo> <words ..>`
abbrev pub node_of : List Octets → Option Node
node_of (label ∷ zone ∷ coo ∷ words) = node_from (label_of label) (name_of zone) (coo_of coo) (groups_of words)
node_of _ = None

-- `<label>`
abbrev pub drop_of : List Octets → Option Line
drop_of fields = option_map Drop (option_and_then label_of (one fields))

-- `<serial>`
abbrev pub change_of : List Octets → Option Line
change_of fields = option_map Change (option_and_then serial_of (one fields))

-- a line, by its first field
abbrev pub line_in : List Octets → Option Line
line_in [] = None
line_in (word ∷ fields) =
    if bytes_eq word (codes "catalog") then catalog_of fields
    else if bytes_eq word (codes "member") then option_map Member (node_of fields)
    else if bytes_eq word (codes "drop") then drop_of fields
    else if bytes_eq word (codes "change") then change_of fields
    else None

-- what a line says that isn't skipped; none of a line that has none of the forms
abbrev pub line_of : Octets → Option Line
line_of text = line_in (fields_of text)
