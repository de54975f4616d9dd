use Rattle.mapplate.proofs.Refusals.{refusal_written}
use Rattle.mapplate.proofs.record.put_fault.Goals as goal

pub returns : goal.returns
returns c =
    refusal_written c.number-number.result _ c.word.result.now _ c.attribute.result _ c.node.result _ _ _ _ _ _ _
    c.number-number.ensures c.word.ensures c.attribute.ensures c.node.ensures
    c.in_ok-write.ensures.bytes c.in_ok-extend_from_slice.ensures.items c.in_ok-put_attribute.ensures c.in_ok-put_node.ensures
    c.in_ok-extend_from_slice-2.ensures.items
