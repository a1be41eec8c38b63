-- Meaning: the zone that a NOTIFY is about (RFC 1996 section 3.7).
use Rattle.std.specs.Prelude.{Option, Some, None}
use Rattle.dz_request.specs.Request.{request}
use Rattle.dz_request.specs.declared.request.Request.{Request}
use Rattle.dz_request.specs.declared.request.Request.TheVariants.{Silent, Curt, NewerEdns, NotImp, Notify, Asks}
use Rattle.dz_name.specs.Words.{Name, Octets}

-- the name in the question of a NOTIFY; any other request is about no zone
abbrev pub notify_zone : Request → Option Name
notify_zone Silent = None
notify_zone (Curt header code) = None
notify_zone (NewerEdns asked) = None
notify_zone (NotImp asked) = None
notify_zone (Notify asked) = Some asked.question.name
notify_zone (Asks asked) = None

-- the zone that these octets, as a request, are about
abbrev pub notify_zone_in : Octets → Option Name
notify_zone_in octets = notify_zone (request octets)
