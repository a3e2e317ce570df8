use Rattle.std.proofs.Common.{◌≡◌, map, take, drop}
use Rattle.byte_texts.specs.Texts.{visible}
use Rattle.byte_texts.proofs.texts.show.Given as goal

abbrev pub invariant-loop-byte : goal.invariant-loop-byte
invariant-loop-byte l =
    (take l.byte-index l.bytes ≡ map visible (take l.byte-index l.initial.bytes)) × (drop l.byte-index l.bytes ≡ drop l.byte-index l.initial.bytes)
