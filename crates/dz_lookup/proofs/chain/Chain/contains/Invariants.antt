use Rattle.std.proofs.Common.{◌≡◌, ◌<◌, drop, length, get_or}
use Rattle.dz_name.specs.Words.{Name}
use Rattle.dz_record.specs.Record.{Record}
use Rattle.dz_lookup.specs.Chain.{was_looked_up}
use Rattle.dz_lookup.proofs.chain.Chain.contains.Given as goal

-- the name wasn't looked up so far
abbrev pub invariant-names : goal.invariant-names
invariant-names l = record {
  found : (d : Name × Record) → l.number < length l.self → l.found ≡ (get_or l.self l.number d).0;
  seen : was_looked_up (drop l.number l.self) l.name ≡ was_looked_up l.self l.name;
}
