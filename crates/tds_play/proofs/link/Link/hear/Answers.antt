use Rattle.std.proofs.Common.{◌≡◌, ◌∙◌, ◌++◌, sym, ap, refl, None}
use Rattle.tds_ends.specs.Feeding.{listened}
use Rattle.tds_play.specs.Listening.{told_in}
use Rattle.tds_play.proofs.Listening.{if_ok, nobody_told}
use Rattle.std.proofs.Common.{List, append-nil, subst}
use Rattle.tds_ends.specs.AllBytes.{ClientHasRead, new_reader}
use Rattle.tds_packet.specs.declared.kind.Direction.TheVariants.{ToClient}
use Rattle.tds_pool.specs.Cleaning.{client_at}
use Rattle.tds_pool.specs.Connections.{connections}
use Rattle.tds_token.specs.declared.token.Token.{Token}
use Rattle.tds_play.specs.Reads.{given_by}
use Rattle.tds_play.proofs.any_bytes.Fed.{fewer_fed}
use Rattle.tds_play.proofs.link.Link.hear.Goals as goal

pub returns-in-None-clause-heard : goal.returns-in-None-clause-heard
returns-in-None-clause-heard g c = λ packets left then comes is.
    let none : c.args.self.now.current ≡ None = c.in-None.is in
    let told = c.new-nobody.ensures.items ∙ sym (ap told_in none) in
    let heard = c.feed_client.ensures.listened packets left then comes (ap (λ ts. listened (client_at c.args.number (connections c.args.pool.now)) None ts packets) told ∙ is) in
    if_ok c.feed_client.result _ _ (λ h p. (p.0, p.1.0, record { reader = p.2; told = nobody_told then c.args.self.now.current none; rest = refl })) heard

pub returns-in-None-clause-any : goal.returns-in-None-clause-any
returns-in-None-clause-any g c = λ size bytes read.
    let nothing = sym (append-nil (given_by c.args.self.now)) ∙ ap (λ (ts : List Token). given_by c.args.self.now ++ ts) (sym c.new-nobody.ensures.items) in
    let fed = c.feed_client.ensures.any size bytes (given_by c.args.self.now)
    (subst (ClientHasRead (new_reader ToClient size) c.args.self.now.client_reader (client_at c.args.number (connections c.args.pool.now)).columns bytes) nothing read) in
    if_ok c.feed_client.result _ _ (λ h p. fewer_fed size _ _ (bytes ++ c.args.piece.now) (given_by c.args.self.now) _ h.fault p) fed
