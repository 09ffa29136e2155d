-- The laws with their proofs.
use Rattle.st_draw.specs.Laws.{TextsStayInTheirElements, ElementsAreClosed}
use Rattle.st_draw.proofs.WellFormedElements.{escaped_inner, element_closed}

pub texts_stay_in_their_elements : TextsStayInTheirElements
texts_stay_in_their_elements text = escaped_inner text

pub elements_are_closed : ElementsAreClosed
elements_are_closed e = element_closed e
