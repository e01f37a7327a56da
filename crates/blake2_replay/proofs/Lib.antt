mod CallsFromTheStart
mod CallsOnSlots
mod LiveCalls
mod FirstBadCall
mod OneCallAndTheRest
mod SlotPlaces
mod StandsForLaws
