use Rattle.std.proofs.Common.{rules, ◌≡◌, ◌+◌, ◌∙◌, ap, take, length}
use Rattle.dz_message.specs.Frame.{frame}
use Rattle.dz_query.proofs.ComingLemmas.{frame_put}
use Rattle.dz_query.proofs.stream.write_framed.Goals as goal

pub returns-clause-all : goal.returns-clause-all
returns-clause-all g c =
    let message = c.args.message.now in
    let whole : take (2 + length message) c.put_at-2.new.room.items ≡ frame message = frame_put c.args.room.now.items
    c.put_at.new.room.items c.put_at-2.new.room.items message (search rules) (search rules) in
    let value : take (2 + length message) c.deref.result.now ≡ frame message =
    ap (λ octets. take (2 + length message) octets) c.deref.ensures.value ∙ whole in
    rw value at c.write.ensures.all

pub returns-clause-err : goal.returns-clause-err
returns-clause-err g c =
    let message = c.args.message.now in
    let whole : take (2 + length message) c.put_at-2.new.room.items ≡ frame message = frame_put c.args.room.now.items
    c.put_at.new.room.items c.put_at-2.new.room.items message (search rules) (search rules) in
    let value : take (2 + length message) c.deref.result.now ≡ frame message =
    ap (λ octets. take (2 + length message) octets) c.deref.ensures.value ∙ whole in
    rw value at c.write.ensures.err
