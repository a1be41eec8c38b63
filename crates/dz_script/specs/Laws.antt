-- Judge: the fields of a line, in other words.
use Rattle.std.specs.Prelude.{◌≡◌, ◌==◌, true, not}
use Rattle.std.specs.List.{join_with_byte, list_all}
use Rattle.dz_name.specs.Words.{Octets}
use Rattle.dz_script.specs.Fields.{fields_of}

-- no space is in a field, and with one space between each two the fields are the line
pub record IsCut (line : Octets) : Type 0 where
  pub whole : join_with_byte 32 (fields_of line) ≡ line
  pub unbroken : list_all (λ field. list_all (λ octet. not (octet == 32)) field) (fields_of line) ≡ true

-- that holds of every line
abbrev pub FieldsAreTheLine : Type 0
FieldsAreTheLine = (line : Octets) → IsCut line
