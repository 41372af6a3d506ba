-- A take's answer beside the queue, for a queue that is lent: the queue itself is what the lender has afterwards.
use Rattle.queue.specs.Calls.{Taken}
use Rattle.queue_c.specs.declared.Took.{Took}

abbrev pub took_of : Taken → Took
took_of t = record { refusal = t.refusal; id = t.id }
