-- The queues that page buffers are posted to.
use Rattle.vm_balloon.specs.declared.device.PageQueueKind.{PageQueueKind}
use Rattle.vm_balloon.specs.declared.device.PageQueueKind.TheVariants.{Inflate, Deflate}
use Rattle.vm_balloon.specs.declared.device.Queue.{Queue}
use Rattle.vm_balloon.specs.declared.device.Queue.TheVariants.{Inflate as Inflates, Deflate as Deflates}

abbrev pub queue_of : PageQueueKind → Queue
queue_of Inflate = Inflates
queue_of Deflate = Deflates
