use Rattle.brace_watch.specs.Lines.{texts_of}
use Rattle.brace_watch.proofs.Asked.{each_asked}
use Rattle.brace_desk.proofs.watch_publisher.WatchPublisherPublisher.epoch.Goals as goal

pub watched_file-requires-clause-watches : goal.watched_file-requires-clause-watches
watched_file-requires-clause-watches g c = let fits = c.requires.fits in each_asked _ (texts_of fits.bytes) _ fits.asks
