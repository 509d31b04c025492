-- So far the front of the bytes was seen.
use Rattle.std.proofs.Common.{◌≡◌, ◌++◌, take}
use Rattle.tds_tcp.specs.Pasts.{bytes_seen}
use Rattle.tds_tcp.proofs.past.see_all.Given as goal

abbrev pub invariant-bytes : goal.invariant-bytes
invariant-bytes l = bytes_seen l.seen.items ≡ bytes_seen l.fn.seen.items ++ take l.byte-index l.bytes
