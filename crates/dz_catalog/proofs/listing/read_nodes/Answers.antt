use Rattle.std.proofs.Common.{arith}
use Rattle.dz_catalog.proofs.ListingLemmas.{reads_many, reads_none, reads_nodes, unbroken}
use Rattle.dz_catalog.proofs.listing.read_nodes.Goals as goal

pub returns-then-len-gt-NODES : goal.returns-then-len-gt-NODES
returns-then-len-gt-NODES c =
    reads_many c.args.apex.now c.args.records.now c.in_ok-nodes.nodes.items c.in_ok-nodes.ensures c.requires.unbroken
    (omega (arith, rw c.len.ensures at c.if-len-gt-NODES.true))

pub returns-in-None : goal.returns-in-None
returns-in-None c =
    let none = unbroken c.args.apex.now c.args.records.now c.in_ok-nodes.nodes.items c.in_ok-nodes.ensures
    c.requires.unbroken (omega (arith, rw c.len.ensures at c.if-len-gt-NODES.false)) in
    let broken = rw c.in-None.is at c.in_ok-try_from_vec.ensures in
    reads_none c.args.apex.now c.args.records.now c.in_ok-nodes.nodes.items c.requires.sorted none
    c.in_ok-nodes.ensures broken

pub returns-in-Some : goal.returns-in-Some
returns-in-Some c =
    let none = unbroken c.args.apex.now c.args.records.now c.in_ok-nodes.nodes.items c.in_ok-nodes.ensures
    c.requires.unbroken (omega (arith, rw c.len.ensures at c.if-len-gt-NODES.false)) in
    let made = rw c.in-Some.is at c.in_ok-try_from_vec.ensures in
    reads_nodes c.args.apex.now c.args.records.now c.in_ok-nodes.nodes.items c.in-Some.listing c.requires.sorted none
    c.in_ok-nodes.ensures made.1.zones made.0
