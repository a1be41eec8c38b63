use Rattle.std.proofs.Common.{rules, ◌≡◌, ◌++◌, ◌∙◌, length, take, drop, take_at, length-append, arith}
use Rattle.dz_name.specs.Numbers.{number_of_two}
use Rattle.dz_query.proofs.ComingLemmas.{frame_came, part_of_front, part_of_message}
use Rattle.dz_query.proofs.RoomLemmas.{front_kept}
use Rattle.dz_query.proofs.came.read_message.Goals as goal

pub returns-in-Ended-clause-came : goal.returns-in-Ended-clause-came
returns-in-Ended-clause-came g c =
    let two : length c.fill.new.buffer ≡ 2 = search rules in
    let f = c.in-Ended.ensures.filled in
    (part_of_front _ _ _ two f.0, f.1)

pub returns-in-Failed-clause-came : goal.returns-in-Failed-clause-came
returns-in-Failed-clause-came g c =
    let two : length c.fill.new.buffer ≡ 2 = search rules in
    part_of_front _ _ _ two c.in-Failed.ensures.filled

pub returns-in-Ended-fill-clause-came : goal.returns-in-Ended-fill-clause-came
returns-in-Ended-fill-clause-came g c =
    let two : length c.fill.new.buffer ≡ 2 = search rules in
    let size : c.size_of-size.result ≡ number_of_two c.fill.new.buffer = search rules in
    let room : length c.fill-2.new.buffer ≡ c.size_of-size.result = search rules in
    let f = c.in-Ended-fill.ensures.filled in
    (part_of_message c.fill.new.buffer _ _ _ _ _ two size room c.in-Whole.ensures.filled f.0, f.1)

pub returns-in-Failed-fill-clause-came : goal.returns-in-Failed-fill-clause-came
returns-in-Failed-fill-clause-came g c =
    let two : length c.fill.new.buffer ≡ 2 = search rules in
    let size : c.size_of-size.result ≡ number_of_two c.fill.new.buffer = search rules in
    let room : length c.fill-2.new.buffer ≡ c.size_of-size.result = search rules in
    part_of_message c.fill.new.buffer _ _ _ _ _ two size room c.in-Whole.ensures.filled c.in-Failed-fill.ensures.filled

pub returns-in-Whole-fill-clause-came : goal.returns-in-Whole-fill-clause-came
returns-in-Whole-fill-clause-came g c =
    let front = c.fill.new.buffer in
    let message = c.fill-2.new.buffer in
    let number = c.size_of-size.result in
    let room : length message ≡ number = search rules in
    let held : 65537 ≡ c.args.request.now.len = search rules in
    let back = c.split_at_mut-message.result.1.now in
    let whole : take number
    (take c.args.request.now.len (message ++ back ++ drop (length (message ++ back)) c.args.request.now.items))
    ≡ take number (message ++ back) =
    front_kept number c.args.request.now.len (message ++ back) _ (omega (arith, room, length-append message back))
    (omega (arith, c.size_of-size.ensures.fits, held)) in
    let all : take number (message ++ back) ≡ message = take_at message back number room in (
      c.size_of-size.ensures.fits,
      rw (whole ∙ all) (frame_came front message number _ _ _ c.size_of-size.ensures.back
          room c.in-Whole.ensures.filled c.in-Whole-fill.ensures.filled),
    )
