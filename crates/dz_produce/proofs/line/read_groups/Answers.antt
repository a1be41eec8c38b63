use Rattle.std.proofs.Common.{◌≡◌, ◌∙◌, sym, None, Some}
use Rattle.dz_produce.specs.Lines.{group_of}
use Rattle.dz_produce.proofs.LineLemmas.{one_more, bad_word, all_read, none_read}
use Rattle.dz_produce.proofs.line.read_groups.Goals as goal

pub words-init : goal.words-init
words-init c = rw c.new-groups.ensures.items (none_read c.args.words)

pub returns-in-None : goal.returns-in-None
returns-in-None c =
    let bad : None ≡ group_of c.in-Some.word.now = cc c.in_ok-read_group.ensures in
    sym (c.words.invariant
    ∙ bad_word c.words.groups.items c.in-Some.word.now c.words.words c.in-Some.rest c.in-Some.ensures bad)

pub words-preserved : goal.words-preserved
words-preserved c =
    let read : Some c.in-Some-2.group ≡ group_of c.in-Some.word.now = cc c.in_ok-read_group.ensures in
    let items = c.in_ok-push-in-Some-2.ensures.items in
    c.words.invariant ∙ rw items (one_more c.words.groups.items c.in-Some-2.group c.in-Some.word.now c.words.words
    c.in-Some.rest c.in-Some.ensures read)

pub returns : goal.returns
returns c =
    rw c.from_vec.ensures (sym (c.words.invariant ∙ all_read c.words.groups.items c.words.words c.in_default.ensures))
