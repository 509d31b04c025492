use Rattle.tds_ends.proofs.Streams.{less, faulty}
use Rattle.tds_play.proofs.hearing.reads_packets.Goals as goal

pub returns-clause-less : goal.returns-clause-less
returns-clause-less c = less c.whatever_follows.ensures

pub returns-clause-faulty : goal.returns-clause-faulty
returns-clause-faulty c = faulty c.whatever_follows.ensures c.fronts.ensures
