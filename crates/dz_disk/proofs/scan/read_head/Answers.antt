use Rattle.std.proofs.Common.{◌≡◌, length, take, drop, arith, ap, sym, ◌∙◌}
use Rattle.std.proofs.lemmas.List.{take_all, length-drop}
use Rattle.dz_disk.proofs.PieceLemmas.{head_part, head_whole}
use Rattle.dz_disk.proofs.scan.read_head.Goals as goal

pub returns-then-count-lt9-clause-head : goal.returns-then-count-lt9-clause-head
returns-then-count-lt9-clause-head g c =
    let long : length c.fill.new.buffer ≡ 9 = omega arith in
    λ f told. head_part c.in_ok-count.count c.fill.new.buffer (drop c.args.at f) long (omega arith) c.if-count-lt9.true
    (c.in_ok-count.ensures.octets f told)

pub returns-clause-head : goal.returns-clause-head
returns-clause-head g c =
    let long : length c.fill.new.buffer ≡ 9 = omega arith in
    let nine : c.in_ok-count.count ≡ 9 = omega (arith, long, c.in_ok-count.ensures.count) in
    λ f told. head_whole c.number_of.result c.fill.new.buffer (drop c.args.at f) long (c.number_of.ensures
    ∙ take_all 8 (drop 1 c.fill.new.buffer) (omega (arith, long, length-drop 1 c.fill.new.buffer))) (omega arith)
    (ap (λ n. take n c.fill.new.buffer) (sym nine) ∙ c.in_ok-count.ensures.octets f told)
