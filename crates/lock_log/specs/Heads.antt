-- How a call was made.
use Rattle.lock_core.specs.declared.call.Call.{Call}
use Rattle.lock_log.specs.declared.log.Head.{Head}

abbrev pub head_of : Call → Head
head_of c = record { way = c.way; place = c.place }
