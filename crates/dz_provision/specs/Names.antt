-- Meaning: the name of no publisher.
use Rattle.dz_desk.specs.Seen.{Book}

abbrev pub nowhere : Book
nowhere = record { number = 0; log_name = 0; cells_name = 0 }
