use Rattle.std.proofs.Common.{rules, List, ℕ, ◌++◌, length, take, drop, refl, ◌∙◌, ap}
use Rattle.dz_header.specs.Buffer.{with_request}
use Rattle.dz_header.proofs.buffer.ReplyBuffer.request_mut.Goals as goal

-- the vector keeps its length, whatever is left after the slice
pub returns : goal.returns
returns c =
    let kept : (w : List ℕ) → _ = λ w.
    ap (λ n. record {
      request = take n (w ++ drop (length w) c.self.inside.request.items);
      reply = c.self.inside.reply;
    }) c.self.inside.request.ok.0
    ∙ ap (λ exchange. with_request exchange w) c.self.view_is in
    ((refl, kept), record { lends = tt; octets = search rules; size = search rules })
