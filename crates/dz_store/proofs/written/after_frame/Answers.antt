use Rattle.std.proofs.Common.{◌≡◌, ◌++◌, length, sym, ap, ◌∙◌, append_assoc, arith}
use Rattle.dz_name.specs.Words.{Octets}
use Rattle.dz_name.specs.Numbers.{two}
use Rattle.dz_message.specs.Frame.{frame}
use Rattle.dz_store.proofs.WritingLemmas.{match_weaker, split_front, no_front, cancel}
use Rattle.dz_store.proofs.written.after_frame.Goals as goal

pub returns : goal.returns
returns c =
    let size = c.two-size.result in
    let message = c.args.message.now in
    let first : c.args.octets.now ≡ size ++ c.in_ok-rest.rest.now = split_front c.args.octets.now size
    c.in_ok-rest.rest.now c.in_ok-rest.ensures.cases.0 c.in_ok-rest.ensures.cases.1 in
    let framed : (after : Octets) → size ++ (message ++ after) ≡ frame message ++ after =
    λ after. sym (append_assoc size message after) ∙ ap (λ l. (l ++ message) ++ after) c.two-size.ensures in
    match_weaker c.strip_prefix-2.result _ _ _ _
    (λ none after same. no_front c.in_ok-rest.rest.now message after none
    (cancel size c.in_ok-rest.rest.now (message ++ after) (sym first ∙ same ∙ sym (framed after))))
    (λ x some. first ∙ ap (λ l. size ++ l) (split_front c.in_ok-rest.rest.now message x.now some.0 some.1)
    ∙ framed x.now)
    c.strip_prefix-2.ensures.cases
