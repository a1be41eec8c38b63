use Rattle.dz_query.proofs.StreamLemmas.{never_starves}
use Rattle.dz_query.proofs.stream.serve_stream.Goals as goal

pub returns-clause-plenty : goal.returns-clause-plenty
returns-clause-plenty g c =
    never_starves c.serve_stream_outward.result.end _ _ _ _ _ _ _ c.serve_stream_outward.ensures.stream
