-- What the ENVCHANGEs of a packet do together.
use Rattle.std.specs.Prelude.{List, [], ◌∷◌, Option}
use Rattle.tds_packet.specs.declared.status.Reset.{Reset}
use Rattle.tds_token.specs.declared.env_change.EnvChange.{EnvChange}
use Rattle.tds_client.specs.Hearing.{mark_after}

-- The mark behind changes, one after the other.
abbrev pub mark_behind : List EnvChange → Option Reset → Option Reset
mark_behind [] mark = mark
mark_behind (change ∷ others) mark = mark_behind others (mark_after change mark)
