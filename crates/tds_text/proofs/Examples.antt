-- Reports and their texts, computed.
use Rattle.std.specs.Prelude.{◌≡◌, refl, ℕ, pos, negsuc, List, [], ◌∷◌, ◌++◌, true, false, Some, None, codes}
use Rattle.std.specs.Fmt.{digits}
use Rattle.tds_packet.specs.declared.status.Reset.TheVariants as reset
use Rattle.tds_session.specs.Session.{SessionState, no_settings, with_value, new_session}
use Rattle.tds_token.specs.declared.token.Token.{Token}
use Rattle.tds_token.specs.declared.token.Token.TheVariants as token
use Rattle.tds_world.specs.declared.outcome.Outcome.{Outcome}
use Rattle.tds_world.specs.declared.outcome.Outcome.TheVariants as outcome
use Rattle.tds_world.specs.declared.outcome.Opened.TheVariants as opened
use Rattle.tds_world.specs.declared.outcome.SendOutcome.TheVariants as send
use Rattle.tds_world.specs.declared.outcome.WorkOutcome.TheVariants as work
use Rattle.tds_world.specs.declared.outcome.Refusal.TheVariants as refusal
use Rattle.tds_world.specs.declared.outcome.End.TheVariants as an_end
use Rattle.tds_world.specs.declared.outcome.Layer.TheVariants as layer
use Rattle.tds_world.specs.declared.report.EventReport.{EventReport}
use Rattle.tds_world.specs.declared.report.RequestStatus.TheVariants as status
use Rattle.tds_world.specs.declared.report.ClientView.TheVariants as client
use Rattle.tds_world.specs.declared.report.Place.TheVariants as place
use Rattle.tds_text.specs.Lines.{request_head, connection_head, client_text, underway_text, text_of}
use Rattle.tds_text.specs.Sessions.{session_text}
use Rattle.tds_text.specs.Texts.{hex4}

-- a line, and its line feed
unfoldable line : List ℕ → List ℕ
line text = text ++ 10 ∷ []

-- an event after which no snapshot is of interest
abbrev plain : Outcome → EventReport
plain o = record { outcome = o; lost = false; snapshots = [] }

-- a session without settings, with its descriptor and its next one
abbrev session : ℕ → ℕ → SessionState
session descriptor next = record { settings = no_settings; descriptor = descriptor; next_descriptor = next }

-- a message with this number and text, as the server writes it
abbrev error : ℕ → List ℕ → Token
error number text = token.Error (record { number = pos number; state = 1; class = 16; text = text; server = []; procedure = []; line = pos 0 })

-- a report of nothing
nothing : text_of (record { events = []; requests = [] }) ≡ []
nothing = refl

-- a begin that is asked, sent, worked and heard
first_run : text_of (record {
  events = plain (outcome.Leased 1 1 opened.New) ∷ plain (outcome.Asked 1) ∷ plain (outcome.Sent send.Last)
      ∷ plain (outcome.ToServer 34) ∷ plain (outcome.Work work.Finished)
      ∷ record {
        outcome = outcome.ToClient 35;
        lost = false;
        snapshots =
            record { conn = 1; client = client.Idle; place = place.Leased 1; descriptor = 1; mark = None; server = session 1 2; to_server = 0; to_client = 0 } ∷ [];
      } ∷ [];
  requests = record { lease = 1; conn = 1; status = status.Finished; ran = Some (session 0 1); tokens = token.Done 0 0 0 ∷ [] } ∷ [];
})
    ≡ line (codes "1 leased 1 on 1 new") ++ line (codes "2 asked 1") ++ line (codes "3 sent last") ++ line (codes "4 to server 34")
    ++ line (codes "5 work finished") ++ line (codes "6 to client 35")
    ++ line (codes "request 1 lease 1 on 1 finished ran 0 -") ++ line (codes "  done 0000 0")
    ++ line (codes "connection 1 idle leased 1 descriptor 1 mark none server 1 - underway 0 0")
unfolding digits hex4 line request_head connection_head client_text underway_text session_text
first_run = refl

-- rows, and then a cut and a restart
cut_run : text_of (record {
  events = plain (outcome.Leased 1 1 opened.New) ∷ plain (outcome.Asked 1) ∷ plain (outcome.Sent send.Last)
      ∷ plain (outcome.ToServer 46) ∷ plain (outcome.Work work.Step) ∷ plain (outcome.ToClient 44) ∷ plain outcome.Cut
      ∷ plain (outcome.Leased 2 2 opened.New) ∷ plain outcome.RestartedServer ∷ [];
  requests = record {
    lease = 1;
    conn = 1;
    status = status.Lost;
    ran = Some (session 0 1);
    tokens =
        token.Columns (record { user_type = 0; flags = 0; name = codes "n" } ∷ []) ∷ token.Row (pos 5 ∷ []) ∷ token.Row (pos 6 ∷ []) ∷ token.Done 17 0 2 ∷ [];
  } ∷ [];
})
    ≡ line (codes "1 leased 1 on 1 new") ++ line (codes "2 asked 1") ++ line (codes "3 sent last") ++ line (codes "4 to server 46")
    ++ line (codes "5 work step") ++ line (codes "6 to client 44") ++ line (codes "7 cut") ++ line (codes "8 leased 2 on 2 new")
    ++ line (codes "9 restarted server")
    ++ line (codes "request 1 lease 1 on 1 lost ran 0 -") ++ line (codes "  columns n") ++ line (codes "  row 5") ++ line (codes "  row 6")
    ++ line (codes "  done 0011 2")
unfolding digits hex4 line request_head connection_head client_text underway_text session_text
cut_run = refl

-- a user's request on the connection of an earlier one: nothing leaks
leaking_state : text_of (record {
  events = [];
  requests = record { lease = 1; conn = 1; status = status.Finished; ran = Some new_session; tokens = [] }
      ∷ record {
        lease = 2;
        conn = 1;
        status = status.Finished;
        ran = Some (session 0 2);
        tokens =
            token.ReturnStatus (pos 0) ∷ token.Done 1 0 0 ∷ error 50003 (codes "no transaction") ∷ token.Done 2 0 0 ∷ [];
      } ∷ [];
})
    ≡ line (codes "request 1 lease 1 on 1 finished ran 0 -") ++ line (codes "request 2 lease 2 on 1 finished ran 0 -") ++ line (codes "  status 0")
    ++ line (codes "  done 0001 0") ++ line (codes "  error 50003 no transaction") ++ line (codes "  done 0002 0")
unfolding digits hex4 line request_head connection_head client_text underway_text session_text
leaking_state = refl

-- settings, a mark, a refusal, a fault, a lost event and a text with what isn't plain
oddities : text_of (record {
  events = plain (outcome.Refused refusal.ConnectionCut) ∷ record {
    outcome = outcome.Fault an_end.Client layer.Core 3;
    lost = true;
    snapshots =
        record {
          conn = 7;
          client = client.Cancelling;
          place = place.Draining;
          descriptor = 4;
          mark = Some reset.KeepTransaction;
          server = with_value 121 (negsuc 0) (with_value 120 (pos 7) (session 4 5));
          to_server = 8;
          to_client = 77;
        } ∷ [];
  } ∷ [];
  requests = record { lease = 2; conn = 7; status = status.Open; ran = None; tokens = error 1 (92 ∷ 31 ∷ 32 ∷ 126 ∷ 127 ∷ 55357 ∷ []) ∷ [] } ∷ [];
})
    ≡ line (codes "1 refused 8") ++ line (codes "2 fault client core 3 lost")
    ++ line (codes "request 1 lease 2 on 7 open not run") ++ line (codes "  error 1 \\u005c\\u001f ~\\u007f\\ud83d")
    ++ line (codes "connection 7 cancelling draining descriptor 4 mark keep server 4 x=7,y=-1 underway 8 77")
unfolding digits hex4 line request_head connection_head client_text underway_text session_text
oddities = refl
