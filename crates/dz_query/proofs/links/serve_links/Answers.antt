use Rattle.std.proofs.Common.{rules, ◌||◌}
use Rattle.dz_desk.proofs.PrefixLemmas.{prefix_trans}
use Rattle.dz_query.specs.Served.{excused}
use Rattle.dz_query.proofs.LinkLemmas.{goes_on, visits_excused, stream_excused}
use Rattle.dz_query.proofs.TurnLemmas.{excused_before, excused_after}
use Rattle.dz_query.proofs.links.serve_links.Goals as goal

pub links-preserved : goal.links-preserved
links-preserved g c =
    let i = c.links.invariant in
    let given = rw c.in-Ok-One.field-0-is at c.in-Ok-One.ensures.given in
    let s = c.serve_stream_outward-session.ensures in
    let back = rw (given.0, c.in-Ok-One.ensures.links) at c.done.ensures.links in
    let one = c.links.unheard in
    let other = c.serve_stream_outward-session.result.unheard in
    let may_fail = g.E.Ear.may_fail in
    let excuse = excused (one || other) may_fail in
    let was = visits_excused (excused one may_fail) excuse _ _ _ _ _ _ _ (excused_before one other may_fail) i.4 in
    let stream = stream_excused c.serve_stream_outward-session.result.end (excused other may_fail) excuse _ _ _ _ _ _ _
    (excused_after one other may_fail) (rw i.6 at s.stream) in
    let ends = rw given.1.faultless at s.ends in (
      search rules,
      search rules,
      prefix_trans _ _ _ i.2 s.seen,
      search rules,
      rw (c.some_starved-starved.ensures, c.either-unheard.ensures)
          (goes_on c.serve_stream_outward-session.result.end _ _ excuse _ _ _ _ _ _ _ c.in-Ok-One.peer _ _ _ _ _ _
          s.seen given.1.unread given.1.unwritten back stream ends was),
      search rules,
      search rules,
      search rules,
    )
