use Rattle.mapplate.proofs.Refusals.{attribute_written}
use Rattle.mapplate.proofs.record.put_attribute.Goals as goal

pub returns : goal.returns
returns c =
    attribute_written _ c.in-Some.name _ _ _ _ c.in-Some.is c.name.ensures c.in_ok-extend_from_slice.ensures.items c.in_ok-extend_from_slice-2.ensures.items
