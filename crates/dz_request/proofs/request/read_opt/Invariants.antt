use Rattle.std.proofs.Common.{◌≡◌, ◌-◌, None}
use Rattle.dz_request.specs.Request.{opt_in}
use Rattle.dz_request.proofs.request.read_opt.Given as goal

abbrev pub invariant-records : goal.invariant-records
invariant-records l = opt_in (l.count - l.counter) l.rest l.found ≡ opt_in l.count l.octets None
