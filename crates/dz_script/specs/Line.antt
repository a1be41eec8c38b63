-- Meaning: the lines of a script.
use Rattle.std.specs.Prelude.{ℕ, ◌-◌, ◌^◌, ◌==◌, ◌||◌, Bool, nat_eq, List, [], ◌∷◌, length, codes, Option, Some, None}
use Rattle.std.specs.Prelude.{option_map, if◌then◌else◌}
use Rattle.std.specs.List.{starts_with}
use Rattle.std.specs.Str.{bytes_eq}
use Rattle.dz_name.specs.Decimal.{number_of}
use Rattle.dz_name.specs.Words.{Octets}
use Rattle.dz_script.specs.Event.{event_of}
use Rattle.dz_script.specs.Fields.{fields_of}
use Rattle.dz_script.specs.Settings.{catalog_of, group_of}
use Rattle.dz_script.specs.declared.line.Event.{Event}
use Rattle.dz_script.specs.declared.line.Line.{Line}
use Rattle.dz_script.specs.declared.line.Line.TheVariants as lines

-- an empty line, or one that begins with `#`
abbrev pub is_skipped : Octets → Bool
is_skipped line = length line == 0 || starts_with nat_eq line (codes "#")

-- moments are below 2^40
abbrev pub moment_of : Octets → Option ℕ
moment_of text = number_of (2 ^ 40 - 1) text

-- an event at its moment, where both were read
abbrev pub event_at : Option ℕ → Option Event → Option Line
event_at (Some moment) (Some event) = Some (lines.Event moment event)
event_at _ _ = None

-- `<moment> <event>`
abbrev pub event_line : Octets → List Octets → Option Line
event_line moment fields = event_at (moment_of moment) (event_of fields)

-- a line that isn't skipped, by its first field, which is a word or a moment
abbrev pub line_in : List Octets → Option Line
line_in [] = None
line_in (word ∷ fields) =
    if bytes_eq word (codes "catalog") then option_map lines.Catalog (catalog_of fields)
    else if bytes_eq word (codes "group") then option_map (λ group. lines.Group group.0 group.1) (group_of fields)
    else event_line word fields

-- what a line says, without its newline; none of a line that has none of the forms
unfoldable pub line_of : Octets → Option Line
line_of line = if is_skipped line then Some lines.Skip else line_in (fields_of line)
