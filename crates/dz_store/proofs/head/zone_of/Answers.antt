use Rattle.std.proofs.Common.{◌≡◌, ◌∙◌, ◌-◌, true, sym, ap, drop, length, length-drop, arith}
use Rattle.std.specs.Prelude.{◌==◌, option_map}
use Rattle.std.proofs.lemmas.Bool.Decides.{nat_tests}
use Rattle.std.proofs.lemmas.List.{take_all}
use Rattle.dz_name.specs.Words.{Name, Octets}
use Rattle.dz_store.specs.Payload.{first_name}
use Rattle.dz_store.proofs.PayloadLemmas.{nothing_read, zone_by_first}
use Rattle.dz_store.proofs.head.zone_of.Goals as goal

pub returns-then-is_empty : goal.returns-then-is_empty
returns-then-is_empty c =
    let none : length c.args.payload.now ≡ 0 =
    let h : (length c.args.payload.now == 0) ≡ true = sym c.is_empty.ensures ∙ c.if-is_empty.true in
    grind (arith, nat_tests) in
    absurd (nothing_read c.args.payload.now c.requires none)

pub returns : goal.returns
returns c =
    let payload = c.args.payload.now in
    c.zone_first.ensures
    ∙ ap (λ l. option_map {T = Name × Octets} {U = Name} (λ z. z.0) (first_name l))
    (take_all (length payload - 1) (drop 1 payload) (omega (arith, length-drop 1 payload)))
    ∙ zone_by_first payload c.requires
