-- The call that a note of one names; this project's own.
use Rattle.elx_io.specs.Call.{Call, Read, Write}
use Rattle.elx_io.specs.declared.call_log.Made.{Made}
use Rattle.elx_io.specs.declared.call_log.Made.TheVariants as made

abbrev pub call_of : Made → Call
call_of (made.Read name) = Read name.now
call_of (made.Write name bytes) = Write name.now bytes.now
