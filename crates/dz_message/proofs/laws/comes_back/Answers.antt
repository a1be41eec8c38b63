use Rattle.std.proofs.Common.{ap, ◌∙◌, sym, [], arith}
use Rattle.std.proofs.lemmas.List.{append-nil}
use Rattle.dz_message.specs.Frame.{stream, messages_in}
use Rattle.dz_message.proofs.FrameLemmas.{come_back, none_there}
use Rattle.dz_message.proofs.laws.comes_back.Goals as goal

pub returns-clause-whole : goal.returns-clause-whole
returns-clause-whole c = λ messages short.
    ap messages_in (sym (append-nil (stream messages))) ∙ come_back _ messages [] (omega arith) short none_there

pub returns-clause-cut : goal.returns-clause-cut
returns-clause-cut c = λ messages part short ends. come_back _ messages part (omega arith) short ends
