-- Inner: the entries of a past, in their order.
use Rattle.std.specs.Prelude.{List, [], ◌∷◌, ◌++◌}
use Rattle.dz_history.specs.declared.entry.Entry.{Entry}
use Rattle.dz_history.specs.declared.past.Past.{Past}
use Rattle.dz_history.specs.declared.past.Past.TheVariants.{Start, After', Same'}

-- the entries of a past, in their order
abbrev pub entries : Past → List Entry
entries Start = []
entries (After' mark before entry) = entries before ++ entry.value ∷ []
entries (Same' mark same) = entries same
