use Rattle.names.specs.Letters.{kind_in, function_in, letter_of, packet_of}
use Rattle.names.specs.declared.Packet.{Packet}
use Rattle.names.proofs.Kept.{kept}
use Rattle.names.proofs.letters.repacked.Goals as goal

pub returns : goal.returns
unfolding letter_of packet_of
returns c =
    let p : Packet = c.args.packet in
    let b = kept (kind_in p.word) (function_in p.word) p.value in
    rw (
      c.picked-2.ensures,
      c.word_of.ensures,
      c.to_in.ensures,
      c.picked.ensures,
      c.function_in.ensures,
      c.register_in.ensures,
      c.task_in.ensures,
      c.kind_read.ensures,
      c.kind_in-kind.ensures,
      b.0,
      b.1,
      b.2,
    )
