use Rattle.std.proofs.Common.{◌≡◌, ◌+◌, ◌-◌, take, drop, get_or, ◌∙◌, arith, true}
use Rattle.std.proofs.lemmas.List.{get_or-drop, get_or-take, length-take-le, length-drop}
use Rattle.dz_zone.proofs.merging.stretch_end.Goals as goal

pub returns-clause-some : goal.returns-clause-some
returns-clause-some c =
    let n = c.ahead_end-end.result - c.args.place in
    let some = c.ahead_end-end.ensures.some in
    let within = c.ahead_end-end.ensures.within in
    let zero : c.args.place + 0 ≡ c.args.place = omega arith in
    let long = length-take-le n (drop c.args.place c.args.flags.now)
    (omega (arith, within, c.requires.long, length-drop c.args.place c.args.flags.now)) in
    let here : get_or (take n (drop c.args.place c.args.flags.now)) 0 true ≡ true =
    get_or-take n (drop c.args.place c.args.flags.now) 0 true (omega (arith, some))
    ∙ (get_or-drop c.args.place c.args.flags.now 0 true ∙ rw zero (c.requires.stands true)) in
    let more = c.standing.ensures.some true (omega (arith, long, some)) here in
    omega (arith, more)
