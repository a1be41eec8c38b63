use Rattle.std.proofs.Common.{arith, refl, ◌≡◌, ◌≤◌, ◌<◌, ◌+◌, ◌-◌, ◌∙◌, ap, drop, length}
use Rattle.std.specs.Prelude.{Some, option_map}
use Rattle.dz_name.specs.Name.{wire_of, wildcard_of}
use Rattle.dz_name.proofs.PartLemmas.{name_drop}
use Rattle.dz_lookup.proofs.Walk.{encloser_missing, encloser_nothing, wire_grows}
use Rattle.dz_lookup.proofs.found.wildcard_above.Goals as goal

pub returns-in_err-encloser : goal.returns-in_err-encloser
returns-in_err-encloser c = λ zone is.
    let few : length c.args.name.now < c.args.missing =
    rw c.as_ref.ensures at (c.in_err-encloser.ensures.none.0 refl) in
    c.from_residual.ensures ∙ ap (option_map wildcard_of) (encloser_nothing zone c.args.name.now c.args.missing is few)

pub wildcard-requires : goal.wildcard-requires
wildcard-requires c =
    let few : c.args.missing ≤ length c.args.name.now = rw c.as_ref.ensures at c.in_ok-encloser.ensures.some.0 in
    let left : c.in_ok-encloser.encloser ≡ drop c.args.missing c.args.name.now =
    rw c.as_ref.ensures at c.in_ok-encloser.ensures.some.1 in
    let name = name_drop (c.args.missing - 1) c.args.name.now c.wire.ensures.name in
    let e : c.args.missing - 1 + 1 ≡ c.args.missing = omega arith in
    let grows = rw e at (wire_grows c.args.name.now (c.args.missing - 1) (omega (arith, few)) name.each) in
    omega (arith, grows, name.short, ap (λ l. length (wire_of l)) left)

pub returns : goal.returns
returns c = λ zone is.
    let few : c.args.missing ≤ length c.args.name.now = rw c.as_ref.ensures at c.in_ok-encloser.ensures.some.0 in
    let left : c.in_ok-encloser.encloser ≡ drop c.args.missing c.args.name.now =
    rw c.as_ref.ensures at c.in_ok-encloser.ensures.some.1 in
    ap Some (c.wildcard.ensures ∙ ap wildcard_of left)
    ∙ ap (option_map wildcard_of) (encloser_missing zone c.args.name.now c.args.missing is few)
